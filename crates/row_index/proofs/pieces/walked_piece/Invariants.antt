use Rattle.std.proofs.Common.{◌≡◌, drop}
use Rattle.std.specs.List.{list_any}
use Rattle.row_index.specs.Lists.{is_key}
use Rattle.row_index.specs.Pieces.{joined}
use Rattle.row_index.proofs.pieces.walked_piece.Given as goal

-- the pieces that are left decide
abbrev pub invariant-loop-n : goal.invariant-loop-n
invariant-loop-n l = list_any (is_key l.key) (joined (drop l.n l.pieces)) ≡ list_any (is_key l.key) (joined l.pieces)
