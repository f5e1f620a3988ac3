-- Where nothing is known yet nothing follows from other limits.
use Rattle.std.proofs.Common.{◌≡◌, refl}
use Rattle.gateway_state.specs.declared.config.Config.{Config}
use Rattle.gateway_state.specs.declared.event.Event.TheVariants.{Limit}
use Rattle.gateway_state.specs.declared.limits.Limits.{Limits}
use Rattle.gateway_state.specs.Direct.{limited}
use Rattle.gateway_state.specs.Gateway.{initial}
use Rattle.gateway_state.specs.Step.{step}
use Rattle.rule_desk.specs.declared.policy.Policy.{Policy}

pub limited_at_first : (config : Config) (policy : Policy) (limits : Limits) → limited limits (initial config policy) ≡ step (initial config policy) (Limit limits)
unfolding step
limited_at_first config policy limits = refl
