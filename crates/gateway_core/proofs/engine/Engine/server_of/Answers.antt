use Rattle.gateway_core.proofs.Running.{running_kept}
use Rattle.gateway_core.proofs.engine.Engine.server_of.Goals as goal

-- a question leaves the state as it is
pub invariant_of-self-2 : goal.invariant_of-self-2
invariant_of-self-2 c = λ x is. running_kept c.in-Some.rows c.server_of.new.self x (c.self.invariant c.in-Some.rows c.in-Some.is) c.server_of.ensures.looked.0 is
