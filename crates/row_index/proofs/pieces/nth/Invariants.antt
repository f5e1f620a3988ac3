use Rattle.std.proofs.Common.{◌≡◌, ◌++◌, drop, slice_get}
use Rattle.row_index.specs.Pieces.{joined}
use Rattle.row_index.proofs.pieces.nth.Given as goal

-- what is left decides
abbrev pub invariant-loop-piece : goal.invariant-loop-piece
invariant-loop-piece l = slice_get (joined (drop l.piece-index l.pieces) ++ l.last) l.left ≡ slice_get (joined l.pieces ++ l.last) l.n
