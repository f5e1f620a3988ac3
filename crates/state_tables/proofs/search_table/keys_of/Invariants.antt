use Rattle.std.proofs.Common.{◌≡◌, ◌++◌, drop, map}
use Rattle.state_tables.specs.Kept.{kept_key}
use Rattle.state_tables.proofs.search_table.keys_of.Given as goal

-- those taken so far and those that are left are all
abbrev pub invariant-loop-row : goal.invariant-loop-row
invariant-loop-row l = l.keys.items ++ map (λ row. kept_key row.now) (drop l.row-index l.rows) ≡ map (λ row. kept_key row.now) l.rows
