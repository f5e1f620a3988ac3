use Rattle.gate_board.proofs.Looks.{HasLooked}
use Rattle.gate_board.proofs.gate.GateOver.take.Given as goal

-- nothing was taken yet
abbrev pub invariant-loop : goal.invariant-loop
invariant-loop g l =
    ((goal.iterator-loop g).can_next l.iterator' × (goal.iterator-loop g).is_finite l.iterator') × HasLooked l.fn.outlet l.outlet
