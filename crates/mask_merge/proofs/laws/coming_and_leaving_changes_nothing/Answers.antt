-- The law is that of the definitions.
use Rattle.mask_merge.proofs.MergedLemmas.{merged-left}
use Rattle.mask_merge.proofs.laws.coming_and_leaving_changes_nothing.Goals as goal

pub returns : goal.returns
returns c = merged-left
