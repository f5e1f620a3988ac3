use Rattle.std.proofs.Common.{◌≡◌}
use Rattle.gate_board.proofs.gate.GateOver.clear.Given as goal

-- the reader only looked so far
abbrev pub invariant-loop : goal.invariant-loop
invariant-loop g l =
    ((goal.iterator-loop g).can_next l.iterator' × (goal.iterator-loop g).is_finite l.iterator')
    × ((l.inlet.offered ≡ l.fn.inlet.offered) × ((l.inlet.ring ≡ l.fn.inlet.ring) × ((l.inlet.dest ≡ l.fn.inlet.dest) × (l.inlet.stops ≡ l.fn.inlet.stops))))
