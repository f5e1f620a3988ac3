use Rattle.pvlist.proofs.ClueLemmas.{kept, clues_of_tree}
use Rattle.pvlist.proofs.clues.clues_of.Goals as goal

pub returns : goal.returns
returns c =
    clues_of_tree _ _ (c.is_anchored_start.ensures.anchored c.if-not-is_anchored_start.false) (c.is_anchored_end.ensures.anchored c.if-not-is_anchored_end.false)
    (kept _ _ _ c.few.ensures c.in_ok-prefixes.ensures.starts) (kept _ _ _ c.few-2.ensures c.in_ok-suffixes.ensures.ends)
    (kept _ _ _ c.few-3.ensures c.in_ok-required.ensures.filled) (kept _ _ _ c.few-3.ensures c.in_ok-required.ensures.contains)
