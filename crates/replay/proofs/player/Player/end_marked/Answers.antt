use Rattle.std.proofs.Common.{◌≡◌, true, rules}
use Rattle.replay.specs.Ending.{AreAllWell, IsFirstEnded}
use Rattle.replay.specs.Player.{playing}
use Rattle.replay.proofs.PerformingLemmas.{Performs-again}
use Rattle.replay.proofs.player.Player.end_marked.Goals as goal

pub loop-preserved : goal.loop-preserved
loop-preserved g c =
    let known = playing g.G.GatewayCalls.state in
    let held = g.W.Write.contents in
    let some : c.in_ok-end_first.field-0 ≡ true = search rules in
    let ended = rw some at c.in_ok-end_first.ensures in
    λ new after h. c.loop.invariant new after
    (Performs-again IsFirstEnded AreAllWell (known c.loop.self) (known c.end_first.new.self) new (held c.loop.out) (held c.end_first.new.out) after ended h)
