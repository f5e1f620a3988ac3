use Rattle.std.proofs.Common.{◌≡◌, ◌≤◌, length, take}
use Rattle.pv_alias.specs.Resolution.{matching, deciding}
use Rattle.pv_alias.proofs.resolver.last_lead.Given as goal

-- the rows stay, and what is left decides
abbrev pub invariant-loop-end : goal.invariant-loop-end
invariant-loop-end l =
    (l.rows ≡ l.fn.rows)
    × (l.end ≤ length l.rows)
    × (deciding (matching (take l.end l.rows) l.name) ≡ deciding (matching l.fn.rows l.name))

abbrev pub decreases-loop-end : goal.decreases-loop-end
decreases-loop-end l = l.end
