use Rattle.std.proofs.Common.{◌≡◌, ◌+◌, ◌-◌, ◌≤◌, ◌++◌, length, take, drop, vec_len, vec_capacity}
use Rattle.fanout.proofs.outbox.Outbox.take.Given as goal

-- what was taken and what is still to be taken are what was asked for
abbrev pub invariant-loop : goal.invariant-loop
invariant-loop l = record {
  room : vec_len l.outs + (l.found - l.counter) ≤ vec_capacity l.outs;
  there : l.found ≤ length l.self.messages + l.counter;
  taken : l.outs.items ++ take (l.found - l.counter) l.self.messages ≡ take l.found l.fn.self.messages;
  rest : drop (l.found - l.counter) l.self.messages ≡ drop l.found l.fn.self.messages;
  mark : l.self.marked ≡ l.fn.self.marked;
}
