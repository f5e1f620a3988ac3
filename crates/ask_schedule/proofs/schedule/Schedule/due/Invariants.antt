use Rattle.std.proofs.Common.{◌≡◌}
use Rattle.ask_schedule.proofs.Looks.{asked_times}
use Rattle.ask_schedule.proofs.schedule.Schedule.due.Given as goal

-- so many names were asked for, one after the other
abbrev pub invariant-loop : goal.invariant-loop
invariant-loop l = record {
  limit : l.self.limit ≡ l.initial.self.limit;
  rows : l.self.rows ≡ asked_times l.now l.counter l.initial.self.rows;
}
