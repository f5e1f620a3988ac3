use Rattle.std.proofs.Common.{◌≡◌, drop}
use Rattle.board_rings.proofs.lengths.Lengths.keep_last.Given as goal

-- so many were taken off the front
abbrev pub invariant-loop : goal.invariant-loop
invariant-loop l = l.self ≡ drop l.counter l.fn.self
