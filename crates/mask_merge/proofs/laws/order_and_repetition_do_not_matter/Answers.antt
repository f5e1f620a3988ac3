-- The law is that of the definitions.
use Rattle.mask_merge.proofs.MergedLemmas.{merged-same}
use Rattle.mask_merge.proofs.laws.order_and_repetition_do_not_matter.Goals as goal

pub returns : goal.returns
returns c = merged-same
