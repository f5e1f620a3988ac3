-- The law is that of the definitions.
use Rattle.mask_merge.proofs.MergedLemmas.{no_more}
use Rattle.mask_merge.proofs.laws.no_more_is_asked_for.Goals as goal

pub returns : goal.returns
returns c = no_more
