use Rattle.std.proofs.Common.{◌≡◌, map, take}
use Rattle.ask_schedule.specs.Plan.{name_of}
use Rattle.ask_schedule.proofs.schedule.first_names.Given as goal

-- the names of the first rows so far
abbrev pub invariant-loop-place : goal.invariant-loop-place
invariant-loop-place l = l.names.items ≡ map name_of (take l.place l.rows.items)
