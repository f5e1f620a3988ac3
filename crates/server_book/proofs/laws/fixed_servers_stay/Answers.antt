use Rattle.server_book.proofs.RunLemmas.{run-fixed}
use Rattle.server_book.proofs.laws.fixed_servers_stay.Goals as goal

pub returns-clause-fixed : goal.returns-clause-fixed
returns-clause-fixed c = λ number calls book is. (run-fixed number calls book is).0

pub returns-clause-address : goal.returns-clause-address
returns-clause-address c = λ number calls book is. (run-fixed number calls book is).1
