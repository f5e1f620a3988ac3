use Rattle.std.proofs.Common.{◌≡◌, ◌++◌, drop}
use Rattle.row_index.specs.Pieces.{joined}
use Rattle.named_rows.proofs.named_rows.add_pieces.Given as goal

-- those taken so far and those that are left are all
abbrev pub invariant-loop-piece : goal.invariant-loop-piece
invariant-loop-piece l = l.keys.items ++ joined (drop l.piece-index l.pieces) ≡ l.initial.keys.items ++ joined l.pieces
