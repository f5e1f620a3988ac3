-- The states that a gateway can come to.
use Rattle.std.specs.Prelude.{◌≡◌, ℕ, List, Option}
use Rattle.std.specs.Option.{option_map}
use Rattle.named_rows.specs.declared.channels.Channel.{Channel}
use Rattle.gateway_state.specs.declared.config.Config.{Config}
use Rattle.rule_desk.specs.declared.policy.Policy.{Policy}
use Rattle.gateway_state.specs.declared.event.Event.{Event}
use Rattle.gateway_state.specs.Gateway.{Gateway, initial}
use Rattle.gateway_state.specs.Rights.{channel_of}
use Rattle.gateway_state.specs.Step.{run}

-- the state is one that a run of some events reaches, from a beginning with some configuration and policy
pub record IsReached (w : Gateway) : Type 0 where
  pub config : Config
  pub policy : Policy
  pub events : List Event
  pub by_run : w ≡ run (initial config policy) events

-- what the client was last told that it may do with a channel, nothing where it has no such channel
abbrev pub rights_told : Gateway → ℕ → ℕ → Option ℕ
rights_told w session sid = option_map (λ (c : Channel). c.rights_told) (channel_of w session sid)
