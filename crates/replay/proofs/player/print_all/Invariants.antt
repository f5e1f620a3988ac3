use Rattle.std.proofs.Common.{ℕ, List, Option}
use Rattle.std.specs.BTreeMap.{keys}
use Rattle.gateway_state.specs.Gateway.{Gateway}
use Rattle.replay.specs.Performing.{Performs}
use Rattle.replay.specs.Printing.{AreEmptied}
use Rattle.replay.proofs.player.print_all.Given as goal

-- what prints all for the connections that are left prints all for each
abbrev pub invariant-loop-dest : goal.invariant-loop-dest
invariant-loop-dest g l =
    (new : Option Gateway) (after : Option (List ℕ))
    → Performs (AreEmptied l.held.keys l.dest-iterator) (g.G.GatewayCalls.state l.gate) new (g.W.Write.contents l.out) after
    → Performs (AreEmptied l.held.keys (keys l.intakes)) (g.G.GatewayCalls.state l.initial.gate) new (g.W.Write.contents l.initial.out) after
