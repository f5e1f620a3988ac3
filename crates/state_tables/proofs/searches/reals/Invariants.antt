use Rattle.std.proofs.Common.{◌≡◌, ◌++◌, drop, map}
use Rattle.state_tables.specs.Kept.{reals_of}
use Rattle.state_tables.proofs.searches.reals.Given as goal

-- those taken so far and those that are left are all
abbrev pub invariant-loop-row : goal.invariant-loop-row
invariant-loop-row l = l.names.items ++ reals_of (map (λ row. row.now) (drop l.row-index l.rows)) ≡ reals_of (map (λ row. row.now) l.rows)
