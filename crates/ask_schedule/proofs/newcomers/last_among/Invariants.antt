use Rattle.std.proofs.Common.{◌≡◌, ◌≤◌, drop, length, None}
use Rattle.ask_schedule.specs.Queue.{last_lap}
use Rattle.ask_schedule.proofs.newcomers.last_among.Given as goal

-- no row from this place on is of the host
abbrev pub invariant-loop-end : goal.invariant-loop-end
invariant-loop-end l = record {
  none : last_lap l.host (drop l.end l.rows.items) ≡ None;
  within : l.end ≤ length l.rows.items;
}

abbrev pub decreases-loop-end : goal.decreases-loop-end
decreases-loop-end l = l.end
