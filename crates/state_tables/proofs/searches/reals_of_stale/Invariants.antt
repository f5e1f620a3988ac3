use Rattle.std.proofs.Common.{◌≡◌, ◌++◌, drop, filter, map}
use Rattle.state_tables.specs.Kept.{is_stale_row, reals_of}
use Rattle.state_tables.proofs.searches.reals_of_stale.Given as goal

-- those taken so far and those that are left are all
abbrev pub invariant-loop-row : goal.invariant-loop-row
invariant-loop-row l =
    l.names.items ++ reals_of (filter is_stale_row (map (λ row. row.now) (drop l.row-index l.rows)))
    ≡ reals_of (filter is_stale_row (map (λ row. row.now) l.rows))
