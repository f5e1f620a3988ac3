-- The law is that of the definitions.
use Rattle.mask_merge.proofs.CountLemmas.{wanted_is_merged, wanted_as_listed, props_are_asked}
use Rattle.mask_merge.proofs.laws.counts_are_enough.Goals as goal

pub returns : goal.returns
returns c = record { native = wanted_is_merged; listed = wanted_as_listed; props = props_are_asked }
