use Rattle.std.proofs.Common.{ap, ◌∙◌}
use Rattle.gateway_rows.specs.BrandedState.{BrandedState}
use Rattle.gateway_rows.specs.CountedState.{CountedState}
use Rattle.gateway_core.proofs.Running.{running_kept}
use Rattle.gateway_core.proofs.engine.Engine.search.Goals as goal

-- what is remembered of names is no part of the state
pub invariant_of-self-2 : goal.invariant_of-self-2
invariant_of-self-2 c =
    let same = ap (λ (known : BrandedState). known.state) c.search.ensures.same ∙ ap (λ (rows : CountedState). rows.state) c.rows.view_is in
    λ x is. running_kept c.in-Some.rows _ x (c.self.invariant c.in-Some.rows c.in-Some.is) same is
