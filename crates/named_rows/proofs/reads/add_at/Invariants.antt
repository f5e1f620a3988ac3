use Rattle.std.proofs.Common.{◌≡◌, ◌++◌, drop, map}
use Rattle.named_rows.specs.Indexes.{read_in, read_key, rows_at}
use Rattle.named_rows.proofs.reads.add_at.Given as goal

-- those taken so far and those that are left are all
abbrev pub invariant-loop-key : goal.invariant-loop-key
invariant-loop-key l =
    l.reads.items ++ map read_in (rows_at read_key l.rows.rows (drop l.key-index l.keys))
    ≡ l.initial.reads.items ++ map read_in (rows_at read_key l.rows.rows l.keys)
