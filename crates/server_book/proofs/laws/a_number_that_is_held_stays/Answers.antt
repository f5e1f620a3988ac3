use Rattle.server_book.proofs.RunLemmas.{step-stays}
use Rattle.server_book.proofs.laws.a_number_that_is_held_stays.Goals as goal

pub returns : goal.returns
returns c = λ number call book held. step-stays number call book held
