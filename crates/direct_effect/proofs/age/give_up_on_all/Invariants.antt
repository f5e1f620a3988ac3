use Rattle.std.proofs.Common.{◌≡◌, ◌≤◌, ◌+◌, fold, drop}
use Rattle.gateway_rows.specs.Looked.{LookedOn}
use Rattle.direct_effect.specs.Overdue.{given_up_on, looks_at}
use Rattle.direct_effect.proofs.age.give_up_on_all.Given as goal

-- giving up on those that are left leads from here to where giving up on all leads, and looks at no more
abbrev pub invariant-loop-one : goal.invariant-loop-one
invariant-loop-one l =
    (fold given_up_on l.rows.state (drop l.one-index l.overdue) ≡ fold given_up_on l.fn.rows.state l.overdue)
    × (l.rows.count.looks + looks_at l.rows.state (drop l.one-index l.overdue) ≤ l.fn.rows.count.looks + looks_at l.fn.rows.state l.overdue)
    × LookedOn l.fn.rows l.rows
