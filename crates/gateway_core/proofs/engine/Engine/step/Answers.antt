use Rattle.gateway_core.proofs.Running.{running_after}
use Rattle.gateway_core.proofs.engine.Engine.step.Goals as goal

-- one event more
pub invariant_of-self-in-Ok : goal.invariant_of-self-in-Ok
invariant_of-self-in-Ok c = λ x is. running_after c.in-Some.rows c.args.event c.step.new.rows x (c.self.invariant c.in-Some.rows c.in-Some.is) c.in-Ok.ensures.ok is
