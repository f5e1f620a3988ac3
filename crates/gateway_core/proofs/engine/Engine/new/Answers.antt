use Rattle.gateway_core.proofs.Running.{running_at_first}
use Rattle.gateway_core.proofs.engine.Engine.new.Goals as goal

-- no event was performed
pub invariant_of-result : goal.invariant_of-result
invariant_of-result c = λ x is. running_at_first c.args.config c.args.policy c.new.result x c.new.ensures.state is
