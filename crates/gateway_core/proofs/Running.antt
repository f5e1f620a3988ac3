-- What an engine holds goes on as it began.
use Rattle.std.proofs.Common.{◌≡◌, Some, sym, subst, ◌∙◌}
use Rattle.gateway_core.specs.EngineState.{IsRunning}
use Rattle.gateway_core.proofs.Begun.{limited_at_first}
use Rattle.gateway_rows.specs.CountedState.{CountedState}
use Rattle.gateway_state.specs.declared.config.Config.{Config}
use Rattle.gateway_state.specs.declared.event.Event.{Event}
use Rattle.gateway_state.specs.declared.event.Event.TheVariants.{Limit}
use Rattle.gateway_state.specs.declared.limits.Limits.{Limits}
use Rattle.gateway_state.specs.Direct.{limited}
use Rattle.gateway_state.specs.Gateway.{initial}
use Rattle.gateway_state.specs.Reached.{IsReached}
use Rattle.gateway_state.specs.Step.{step}
use Rattle.gateway_state.proofs.ReachedStates.{reached_initial, reached_step}
use Rattle.rule_desk.specs.declared.policy.Policy.{Policy}

running_along : (v x : CountedState) → IsReached v.state → Some v ≡ Some x → IsRunning x
running_along v x reached is = let same : v ≡ x = cc in subst IsRunning same reached

pub running_at_first : (config : Config) (policy : Policy) (v x : CountedState) → v.state ≡ initial config policy → Some v ≡ Some x → IsRunning x
running_at_first config policy v x first is = running_along v x (subst IsReached (sym first) (reached_initial config policy)) is

pub running_after : (rows : CountedState) (event : Event) (v x : CountedState) → IsRunning rows → v.state ≡ step rows.state event → Some v ≡ Some x → IsRunning x
running_after rows event v x running after is = running_along v x (subst IsReached (sym after) (reached_step rows.state event running)) is

-- what leaves the state as it is leaves it reached
pub running_kept : (rows v x : CountedState) → IsRunning rows → v.state ≡ rows.state → Some v ≡ Some x → IsRunning x
running_kept rows v x running same is = running_along v x (subst IsReached (sym same) running) is

-- one that begins with other limits
pub running_limited : (config : Config) (policy : Policy) (limits : Limits) (v x : CountedState) → v.state ≡ limited limits (initial config policy) → Some v ≡ Some x → IsRunning x
running_limited config policy limits v x first is =
    running_along v x (subst IsReached (sym (first ∙ limited_at_first config policy limits)) (reached_step (initial config policy) (Limit limits) (reached_initial config policy))) is
