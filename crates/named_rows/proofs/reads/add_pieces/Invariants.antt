use Rattle.std.proofs.Common.{◌≡◌, ◌++◌, drop, map}
use Rattle.row_index.specs.Pieces.{joined}
use Rattle.named_rows.specs.Indexes.{read_in, read_key, rows_at}
use Rattle.named_rows.proofs.reads.add_pieces.Given as goal

-- those taken so far and those that are left are all
abbrev pub invariant-loop-piece : goal.invariant-loop-piece
invariant-loop-piece l =
    l.reads.items ++ map read_in (rows_at read_key l.rows.rows (joined (drop l.piece-index l.pieces)))
    ≡ l.initial.reads.items ++ map read_in (rows_at read_key l.rows.rows (joined l.pieces))
