use Rattle.gateway_state.proofs.ReachedStates.{reached_after}
use Rattle.plain_gate.proofs.gate.PlainGateGatewayCalls.step.Goals as goal

-- one event more
pub invariant_of-self-in-Ok : goal.invariant_of-self-in-Ok
invariant_of-self-in-Ok c = λ x is.
    reached_after c.in-Some.rows c.args.event c.step.new.rows x (c.self.invariant c.in-Some.rows c.in-Some.is) c.in-Ok.ensures.ok is
