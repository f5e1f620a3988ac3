use Rattle.std.proofs.Common.{◌≡◌, ◌++◌, drop, take}
use Rattle.std.specs.Prelude.{map}
use Rattle.gateway_state.specs.Searches.{grown_stale}
use Rattle.plain_rows.proofs.searches.grow_stale.Given as goal

-- those before the index grew stale, and the others are as they were
abbrev pub invariant-loop-row : goal.invariant-loop-row
invariant-loop-row l =
    l.row-items ≡ map grown_stale (take l.row-index l.fn.rows.items) ++ drop l.row-index l.fn.rows.items
