use Rattle.std.proofs.Common.{ℕ, List, Option}
use Rattle.replay.specs.Ending.{AreEnded}
use Rattle.replay.specs.Performing.{Performs}
use Rattle.replay.specs.Player.{Playing, playing}
use Rattle.replay.proofs.player.Player.end_marked.Given as goal

-- what ends all that are left ends all
abbrev pub invariant-loop : goal.invariant-loop
invariant-loop g l =
    (new : Option Playing) (after : Option (List ℕ))
    → Performs AreEnded (playing g.G.GatewayCalls.state l.self) new (g.W.Write.contents l.out) after
    → Performs AreEnded (playing g.G.GatewayCalls.state l.initial.self) new (g.W.Write.contents l.initial.out) after
