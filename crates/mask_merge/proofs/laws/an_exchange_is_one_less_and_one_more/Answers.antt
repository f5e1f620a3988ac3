-- The law is that of the definitions.
use Rattle.mask_merge.proofs.CountLemmas.{exchanged_middle}
use Rattle.mask_merge.proofs.laws.an_exchange_is_one_less_and_one_more.Goals as goal

pub returns : goal.returns
returns c = exchanged_middle
