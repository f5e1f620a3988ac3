use Rattle.std.proofs.Common.{◌≡◌, ◌++◌, drop}
use Rattle.std.specs.Prelude.{map}
use Rattle.gateway_state.specs.Variables.{search_name}
use Rattle.plain_rows.proofs.searches.reals.Given as goal

-- what is known so far, and what the searches lead to that are left, is all
abbrev pub invariant-loop-row : goal.invariant-loop-row
invariant-loop-row l =
    l.reals.items ++ map (search_name l.policy) (drop l.row-index l.rows) ≡ map (search_name l.policy) l.rows
