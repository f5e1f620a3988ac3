use Rattle.std.proofs.Common.{arith}
use Rattle.replay.proofs.GatewayLemmas.{Performs-drained, Performs-lessened}
use Rattle.replay.proofs.player.print_outbox.Goals as goal

pub loop-preserved : goal.loop-preserved
loop-preserved g c =
    let state = g.G.GatewayCalls.state in
    let held = g.W.Write.contents in
    λ new after h. c.loop.invariant new after
    (Performs-lessened c.args.dest c.in_ok-print_messages.field-0 (state c.loop.gate) (state c.print_messages.new.gate) new
    (held c.loop.out) (held c.print_messages.new.out) after
    (Performs-drained c.args.dest 1024 (state c.loop.gate) (state c.print_messages.new.gate) (held c.loop.out) (held c.print_messages.new.out)
    c.in_ok-print_messages.ensures.taken c.in_ok-print_messages.ensures.printed)
    c.in_ok-print_messages.ensures.count (omega (arith, c.if-branch-eq0.false)) h)
