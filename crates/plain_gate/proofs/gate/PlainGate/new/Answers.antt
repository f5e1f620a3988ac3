use Rattle.gateway_state.proofs.ReachedStates.{reached_at_first}
use Rattle.plain_gate.proofs.gate.PlainGate.new.Goals as goal

-- no event was performed
pub invariant_of-result : goal.invariant_of-result
invariant_of-result c = λ x is. reached_at_first c.args.config c.args.policy c.new.result x c.new.ensures is
