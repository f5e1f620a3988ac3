use Rattle.std.proofs.Common.{◌≡◌, drop}
use Rattle.std.specs.List.{find}
use Rattle.row_index.specs.declared.key.Key.{Key}
use Rattle.row_index.specs.Rows.{value_at}
use Rattle.state_tables.specs.Kept.{is_by_found}
use Rattle.state_tables.proofs.search_table.sought.Given as goal

-- the first is among those that are left
abbrev pub invariant-loop-key : goal.invariant-loop-key
invariant-loop-key l =
    find (λ (key : Key). is_by_found l.host (value_at key l.rows)) (drop l.key-index l.keys)
    ≡ find (λ (key : Key). is_by_found l.host (value_at key l.rows)) l.keys
