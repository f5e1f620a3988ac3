use Rattle.server_book.proofs.RunLemmas.{run-waits}
use Rattle.server_book.proofs.laws.names_that_wait_are_kept.Goals as goal

pub returns-clause-connecting : goal.returns-clause-connecting
returns-clause-connecting c = λ number calls book connecting none. (run-waits number calls book none connecting).0

pub returns-clause-names : goal.returns-clause-names
returns-clause-names c = λ number calls book connecting none. (run-waits number calls book none connecting).1
