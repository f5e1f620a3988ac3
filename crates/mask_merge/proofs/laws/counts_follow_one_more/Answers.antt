-- The law is that of the definitions.
use Rattle.mask_merge.proofs.CountLemmas.{with_last, with_middle}
use Rattle.mask_merge.proofs.laws.counts_follow_one_more.Goals as goal

pub returns : goal.returns
returns c = record { last = with_last; anywhere = with_middle }
