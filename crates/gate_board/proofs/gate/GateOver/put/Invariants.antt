use Rattle.std.proofs.Common.{◌≡◌}
use Rattle.gate_board.proofs.Looks.{OffersInVain}
use Rattle.gate_board.proofs.gate.GateOver.put.Given as goal

-- it was offered in vain so far
abbrev pub invariant-loop : goal.invariant-loop
invariant-loop g l =
    ((goal.iterator-loop g).can_next l.iterator' × (goal.iterator-loop g).is_finite l.iterator')
    × (OffersInVain l.fn.inlet l.inlet × ((l.inlet.ring ≡ l.fn.inlet.ring) × ((l.inlet.dest ≡ l.fn.inlet.dest) × (l.item ≡ l.fn.item))))
