-- What holds of every state that a gateway can come to.
use Rattle.std.proofs.Common.{◌≡◌, ℕ, List, [], ◌∷◌, ◌++◌, Option, Some, None, refl, sym, ap, subst, ◌∙◌}
use Rattle.std.specs.List.{All}
use Rattle.std.specs.Option.{option_map}
use Rattle.named_rows.specs.declared.channels.Channel.{Channel}
use Rattle.named_rows.specs.Channels.{is_channel}
use Rattle.gateway_state.specs.declared.config.Config.{Config}
use Rattle.rule_desk.specs.declared.policy.Policy.{Policy}
use Rattle.gateway_state.specs.declared.event.Event.{Event}
use Rattle.gateway_state.specs.Gateway.{Gateway, initial}
use Rattle.gateway_state.specs.Reached.{IsReached, rights_told}
use Rattle.gateway_state.specs.Rights.{channel_of, rights_asked, rights_in}
use Rattle.gateway_state.specs.Settled.{IsUpToDate}
use Rattle.gateway_state.specs.Step.{run, step}
use Rattle.gateway_state.proofs.RowTests.{found_passes}
use Rattle.gateway_state.proofs.SettledRuns.{run_up_to_date}

pub reached_initial : (config : Config) (policy : Policy) → IsReached (initial config policy)
unfolding run
reached_initial config policy = record { config = config; policy = policy; events = []; by_run = refl }

-- one event more
run_one_more : (w : Gateway) (events : List Event) (event : Event) → run w (events ++ event ∷ []) ≡ step (run w events) event
unfolding run
run_one_more w [] event = refl
run_one_more w (first ∷ events) event = run_one_more (step w first) events event

pub reached_step : (w : Gateway) (event : Event) → IsReached w → IsReached (step w event)
reached_step w event reached = record {
  config = reached.config;
  policy = reached.policy;
  events = reached.events ++ event ∷ [];
  by_run = ap (λ (v : Gateway). step v event) reached.by_run ∙ sym (run_one_more (initial reached.config reached.policy) reached.events event);
}

reached_along : (v x : Gateway) → IsReached v → Some v ≡ Some x → IsReached x
reached_along v x reached is = let same : v ≡ x = cc in subst IsReached same reached

-- the same of what an engine holds
pub reached_at_first : (config : Config) (policy : Policy) (v x : Gateway) → v ≡ initial config policy → Some v ≡ Some x → IsReached x
reached_at_first config policy v x first is = reached_along v x (subst IsReached (sym first) (reached_initial config policy)) is

pub reached_after : (w : Gateway) (event : Event) (v x : Gateway) → IsReached w → v ≡ step w event → Some v ≡ Some x → IsReached x
reached_after w event v x reached after is = reached_along v x (subst IsReached (sym after) (reached_step w event reached)) is

-- in such a state the rights that a client was last told are those that it has
pub told_rights_hold : (w : Gateway) (session sid : ℕ) → IsReached w → rights_told w session sid ≡ rights_asked w session sid
told_rights_hold w session sid reached = by (channel_of w session sid) refl
  where
    up_to_date : All (IsUpToDate w) w.clients.channels
    up_to_date = subst (λ (v : Gateway). All (IsUpToDate v) v.clients.channels) (sym reached.by_run) (run_up_to_date reached.config reached.policy reached.events)

    by : (found : Option Channel) → channel_of w session sid ≡ found → option_map (λ (c : Channel). c.rights_told) found ≡ rights_in w found
    by None is = refl
    by (Some c) is = ap Some (found_passes (IsUpToDate w) (is_channel session sid) w.clients.channels c up_to_date is).rights
