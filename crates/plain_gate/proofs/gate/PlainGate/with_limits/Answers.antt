use Rattle.std.proofs.Common.{refl}
use Rattle.gateway_state.specs.declared.event.Event.TheVariants.{Limit}
use Rattle.gateway_state.proofs.ReachedStates.{reached_after, reached_at_first}
use Rattle.plain_gate.proofs.gate.PlainGate.with_limits.Goals as goal

-- the limits are the first event
pub invariant_of-result : goal.invariant_of-result
invariant_of-result c = λ x is.
    let first = reached_at_first c.args.config c.args.policy c.new-rows.result c.new-rows.result c.new-rows.ensures refl in
    reached_after c.new-rows.result (Limit c.args.limits) c.step.new.rows x first c.in-Ok.ensures.ok is
