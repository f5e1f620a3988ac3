-- The law is that of the definitions.
use Rattle.mask_merge.proofs.MergedLemmas.{met}
use Rattle.mask_merge.proofs.laws.each_want_is_met.Goals as goal

pub returns : goal.returns
returns c = met
