use Rattle.std.proofs.Common.{◌≡◌, ◌++◌, drop}
use Rattle.named_rows.specs.Indexes.{rows_at, sub_key}
use Rattle.named_rows.proofs.subs.list_at.Given as goal

-- those taken so far and those that are left are all
abbrev pub invariant-loop-key : goal.invariant-loop-key
invariant-loop-key l =
    l.subs.items ++ rows_at sub_key l.rows.rows (drop l.key-index l.keys)
    ≡ l.initial.subs.items ++ rows_at sub_key l.rows.rows l.keys
