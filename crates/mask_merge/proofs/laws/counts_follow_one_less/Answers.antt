-- The law is that of the definitions.
use Rattle.mask_merge.proofs.CountLemmas.{without_middle}
use Rattle.mask_merge.proofs.laws.counts_follow_one_less.Goals as goal

pub returns : goal.returns
returns c = without_middle
