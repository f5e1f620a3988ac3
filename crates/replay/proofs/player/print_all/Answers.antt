use Rattle.replay.proofs.GatewayLemmas.{Performs-emptied_next}
use Rattle.replay.proofs.player.print_all.Goals as goal

pub loop-dest-preserved : goal.loop-dest-preserved
loop-dest-preserved g c =
    let state = g.G.GatewayCalls.state in
    let held = g.W.Write.contents in
    λ new after h. c.loop-dest.invariant new after
    (rw c.in-Some.ensures.steps
    (Performs-emptied_next c.args.held.now.keys c.in-Some.dest.now c.next.new.self (state c.loop-dest.gate) (state c.print_unheld.new.gate) new
    (held c.loop-dest.out) (held c.print_unheld.new.out) after c.in_ok-print_unheld.ensures.printed h))
