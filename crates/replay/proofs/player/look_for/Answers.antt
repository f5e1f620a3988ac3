use Rattle.std.proofs.Common.{arith}
use Rattle.replay.proofs.GatewayLemmas.{run-next_name, run-no_names}
use Rattle.replay.proofs.player.look_for.Goals as goal

pub loop-name-preserved : goal.loop-name-preserved
loop-name-preserved g c =
    let state = g.G.GatewayCalls.state in
    λ new h. c.loop-name.invariant new
    (run-next_name c.args.host.now _ c.args.names.now c.loop-name.name-index (state c.loop-name.gate) (state c.step.new.self) new
    c.loop-name-test.true c.name-item.is (rw (c.in_ok-copy.ensures, c.in_ok-copy-2.ensures) at c.in_ok-step.ensures.ok) h)

pub returns : goal.returns
returns g c =
    let state = g.G.GatewayCalls.state in
    c.loop-name.invariant (state c.loop-name.gate)
    (run-no_names c.args.host.now c.args.names.now c.loop-name.name-index (state c.loop-name.gate) (omega (arith, c.loop-name-test.false)))
