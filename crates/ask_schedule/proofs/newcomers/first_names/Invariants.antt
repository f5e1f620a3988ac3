use Rattle.std.proofs.Common.{◌≡◌, map, take}
use Rattle.ask_schedule.specs.Queue.{newcomer_name}
use Rattle.ask_schedule.proofs.newcomers.first_names.Given as goal

-- the names of the first rows so far
abbrev pub invariant-loop-place : goal.invariant-loop-place
invariant-loop-place l = l.names.items ≡ map newcomer_name (take l.place l.rows.items)
