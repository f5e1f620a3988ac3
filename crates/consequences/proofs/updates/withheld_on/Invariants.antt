use Rattle.std.proofs.Common.{◌≡◌, ◌≤◌, ◌+◌, ◌++◌, filter, drop}
use Rattle.gateway_rows.specs.Looked.{OnlyLookedOn}
use Rattle.gateway_rows.specs.Own.{subs_on}
use Rattle.gateway_state.specs.Updates.{is_withheld}
use Rattle.touched_rows.specs.Touched.{withheld_on}
use Rattle.consequences.proofs.updates.withheld_on.Given as goal

-- those found so far and those among the subscriptions that are left are all, and of each that was passed one more row was looked at
abbrev pub invariant-loop-sub : goal.invariant-loop-sub
invariant-loop-sub l =
    (l.subs.items ++ filter (is_withheld l.fn.rows.state) (drop l.sub-index l.sub-items) ≡ withheld_on l.name l.fn.rows.state)
    × (l.rows.count.looks ≤ l.fn.rows.count.looks + (subs_on l.fn.rows.state l.name + l.sub-index))
    × OnlyLookedOn l.fn.rows l.rows
