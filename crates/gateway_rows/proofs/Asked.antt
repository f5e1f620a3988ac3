-- Where each channel is served, only names that are searched for can lack a link.
use Rattle.std.proofs.Common.{◌≡◌, ℕ, List, [], ◌∷◌, ◌++◌, Bool, true, false, cond, not, ◌&&◌, Option, Some, None, refl, sym, ap, subst, ◌∙◌, true≢false}
use Rattle.std.specs.Prelude.{fold, is_some}
use Rattle.std.specs.List.{All}
use Rattle.std.proofs.lemmas.List.Elements.{All-head, All-tail}
use Rattle.named_rows.specs.declared.channels.Channel.{Channel}
use Rattle.link_table.specs.declared.links.LinkRow.{LinkRow}
use Rattle.gateway_state.specs.Gateway.{Gateway, initial}
use Rattle.gateway_state.specs.Reached.{IsReached}
use Rattle.gateway_state.specs.Resolution.{is_real}
use Rattle.gateway_state.specs.Rights.{is_served, lead_in, link_connected}
use Rattle.gateway_state.specs.Settled.{IsUpToDate}
use Rattle.gateway_state.specs.Step.{run}
use Rattle.gateway_state.specs.Variables.{asks, channel_names, is_linked, link_of, search_names, with_name, with_unlinked}
use Rattle.gateway_state.proofs.SettledMeaning.{quiet_up_to_date}
use Rattle.gateway_state.proofs.SettledRuns.{run_settled}

linked_if_served : (w : Gateway) (c : Channel) → is_served w c ≡ true → is_linked w c.real ≡ true
linked_if_served w c served = by (is_real (lead_in w c.session c.asked) c.real) (link_of w c.real) served
  where
    by : (real : Bool) (found : Option LinkRow) → (real && link_connected found) ≡ true → is_some found ≡ true
    by true (Some link) served = refl
    by true None served = absurd (true≢false (sym served))
    by false found served = absurd (true≢false (sym served))

channels_add_none : (w : Gateway) (names : List (List ℕ)) (channels : List Channel) → All (IsUpToDate w) channels → fold (with_unlinked w) names (channel_names channels) ≡ names
channels_add_none w names [] served = refl
channels_add_none w names (c ∷ channels) served =
    let first : IsUpToDate w c = All-head (IsUpToDate w) c channels served in
    let rest = channels_add_none w names channels (All-tail (IsUpToDate w) c channels served) in
    ap (λ (linked : Bool). fold (with_unlinked w) (cond (not linked) (with_name c.real names) names) (channel_names channels)) (linked_if_served w c first.served) ∙ rest

fold_joined : (w : Gateway) (names : List (List ℕ)) (first rest : List (List ℕ)) → fold (with_unlinked w) names (first ++ rest) ≡ fold (with_unlinked w) (fold (with_unlinked w) names first) rest
fold_joined w names [] rest = refl
fold_joined w names (name ∷ first) rest = fold_joined w (with_unlinked w names name) first rest

pub asks_of_searches : (w : Gateway) → All (IsUpToDate w) w.clients.channels → asks w ≡ fold (with_unlinked w) [] (search_names w.policy w.searches)
asks_of_searches w served =
    fold_joined w [] (channel_names w.clients.channels) (search_names w.policy w.searches)
    ∙ ap (λ (names : List (List ℕ)). fold (with_unlinked w) names (search_names w.policy w.searches)) (channels_add_none w [] w.clients.channels served)

-- in every state that a run reaches channels are served
pub reached_served : (w : Gateway) → IsReached w → All (IsUpToDate w) w.clients.channels
reached_served w reached =
    subst (λ (v : Gateway). All (IsUpToDate v) v.clients.channels) (sym reached.by_run)
    (quiet_up_to_date (run (initial reached.config reached.policy) reached.events) (run_settled reached.config reached.policy reached.events).channels)
