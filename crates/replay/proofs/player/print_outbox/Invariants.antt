use Rattle.std.proofs.Common.{ℕ, List, Option}
use Rattle.gateway_state.specs.Gateway.{Gateway}
use Rattle.replay.specs.Performing.{Performs}
use Rattle.replay.specs.Printing.{IsEmptied}
use Rattle.replay.proofs.player.print_outbox.Given as goal

-- what prints all that is left prints all that there was
abbrev pub invariant-loop : goal.invariant-loop
invariant-loop g l =
    (new : Option Gateway) (after : Option (List ℕ))
    → Performs (IsEmptied l.dest) (g.G.GatewayCalls.state l.gate) new (g.W.Write.contents l.out) after
    → Performs (IsEmptied l.dest) (g.G.GatewayCalls.state l.initial.gate) new (g.W.Write.contents l.initial.out) after
