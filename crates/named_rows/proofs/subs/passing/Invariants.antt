use Rattle.std.proofs.Common.{◌≡◌, ◌++◌, drop}
use Rattle.std.specs.List.{filter}
use Rattle.named_rows.specs.Indexes.{rows_at, sub_key}
use Rattle.named_rows.specs.Subs.{is_sub_on}
use Rattle.named_rows.proofs.subs.passing.Given as goal

-- those that passed so far and those that are left are all
abbrev pub invariant-loop-key : goal.invariant-loop-key
invariant-loop-key l =
    l.subs.items ++ filter (is_sub_on l.session l.sid) (rows_at sub_key l.rows.rows (drop l.key-index l.keys))
    ≡ filter (is_sub_on l.session l.sid) (rows_at sub_key l.rows.rows l.keys)
