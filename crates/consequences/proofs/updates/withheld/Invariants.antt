use Rattle.std.proofs.Common.{◌≡◌, ◌++◌, filter, drop}
use Rattle.gateway_rows.specs.Looked.{OnlyLookedOn}
use Rattle.gateway_state.specs.Updates.{is_withheld, withheld}
use Rattle.consequences.proofs.updates.withheld.Given as goal

-- those found so far and those among the subscriptions that are left are all
abbrev pub invariant-loop-sub : goal.invariant-loop-sub
invariant-loop-sub l =
    (l.subs.items ++ filter (is_withheld l.fn.rows.state) (drop l.sub-index l.sub-items) ≡ withheld l.fn.rows.state)
    × OnlyLookedOn l.fn.rows l.rows
