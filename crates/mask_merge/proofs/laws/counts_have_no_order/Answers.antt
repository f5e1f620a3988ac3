-- The law is that of the definitions.
use Rattle.mask_merge.proofs.CountLemmas.{counted_either}
use Rattle.mask_merge.proofs.laws.counts_have_no_order.Goals as goal

pub returns : goal.returns
returns c = counted_either
