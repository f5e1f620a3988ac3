use Rattle.std.proofs.Common.{◌≡◌, ◌++◌, drop}
use Rattle.std.specs.Prelude.{filter, map}
use Rattle.gateway_state.specs.Searches.{is_fresh}
use Rattle.gateway_state.specs.Variables.{search_name}
use Rattle.plain_rows.proofs.searches.fresh_reals.Given as goal

-- what is known so far, and what the fresh searches lead to that are left, is all
abbrev pub invariant-loop-row : goal.invariant-loop-row
invariant-loop-row l =
    l.reals.items ++ map (search_name l.policy) (filter is_fresh (drop l.row-index l.rows)) ≡ map (search_name l.policy) (filter is_fresh l.rows)
