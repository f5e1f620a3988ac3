use Rattle.std.proofs.Common.{◌≡◌}
use Rattle.ask_schedule.proofs.Lines.{taken_times}
use Rattle.ask_schedule.proofs.newcomers.Newcomers.take.Given as goal

-- so many rows were taken, one after the other
abbrev pub invariant-loop : goal.invariant-loop
invariant-loop l = l.self ≡ taken_times l.counter l.initial.self
