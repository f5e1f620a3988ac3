use Rattle.std.proofs.Common.{◌≡◌, ◌++◌, drop, length, map, take}
use Rattle.ask_schedule.specs.Plan.{sooner}
use Rattle.ask_schedule.proofs.schedule.make_rows_sooner.Given as goal

-- the rows that are left, and behind them the others, which are due sooner
abbrev pub invariant-loop : goal.invariant-loop
invariant-loop l = record {
  rows : l.rows.items ≡ drop l.counter l.initial.rows.items ++ map (sooner l.now l.tries) (take l.counter l.initial.rows.items);
  long : length l.rows.items ≡ length l.initial.rows.items;
}
