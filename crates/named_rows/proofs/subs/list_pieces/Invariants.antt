use Rattle.std.proofs.Common.{◌≡◌, ◌++◌, drop}
use Rattle.row_index.specs.Pieces.{joined}
use Rattle.named_rows.specs.Indexes.{rows_at, sub_key}
use Rattle.named_rows.proofs.subs.list_pieces.Given as goal

-- those taken so far and those that are left are all
abbrev pub invariant-loop-piece : goal.invariant-loop-piece
invariant-loop-piece l =
    l.subs.items ++ rows_at sub_key l.rows.rows (joined (drop l.piece-index l.pieces))
    ≡ l.initial.subs.items ++ rows_at sub_key l.rows.rows (joined l.pieces)
