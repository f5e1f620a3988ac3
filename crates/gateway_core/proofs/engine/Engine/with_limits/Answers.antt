use Rattle.std.proofs.Common.{Some, ap, ◌∙◌}
use Rattle.gateway_rows.specs.CountedState.{CountedState}
use Rattle.gateway_state.specs.Direct.{limited}
use Rattle.gateway_core.proofs.Begun.{limited_at_first}
use Rattle.gateway_core.proofs.Running.{running_limited}
use Rattle.gateway_core.proofs.engine.Engine.with_limits.Goals as goal

-- no event was performed but that
pub invariant_of-result : goal.invariant_of-result
invariant_of-result c =
    let began = c.set_limits.ensures.state.0 ∙ ap (λ (rows : CountedState). limited c.args.limits rows.state) c.limited.view_is ∙ ap (limited c.args.limits) c.new-limited.ensures.state in
    λ x is. running_limited c.args.config c.args.policy c.args.limits _ x began is

-- nothing follows from it
pub returns-clause-state : goal.returns-clause-state
returns-clause-state c =
    let began = c.set_limits.ensures.state.0 ∙ ap (λ (rows : CountedState). limited c.args.limits rows.state) c.limited.view_is ∙ ap (limited c.args.limits) c.new-limited.ensures.state in
    ap Some (began ∙ limited_at_first c.args.config c.args.policy c.args.limits)
