-- No session ever has two subscriptions under one ID.
use Rattle.std.proofs.Common.{◌≡◌, ℕ, List, [], ◌∷◌, ◌++◌, Bool, true, false, cond, eqb, Some, refl, sym, ◌∙◌}
use Rattle.std.specs.Prelude.{filter, is_some}
use Rattle.std.specs.List.{find}
use Rattle.std.proofs.lemmas.Bool.{and_from, and_parts, eqb-true, eq-eqb, true≢false}
use Rattle.std.proofs.lemmas.List.Folds.{list_any-append}
use Rattle.rows.specs.Rows.{change_first}
use Rattle.named_rows.specs.declared.subs.ClientSub.{ClientSub}
use Rattle.named_rows.specs.Subs.{is_not_sub, is_not_sub_of, is_not_sub_on, is_sub, with_owed}
use Rattle.gateway_state.specs.declared.config.Config.{Config}
use Rattle.rule_desk.specs.declared.policy.Policy.{Policy}
use Rattle.gateway_state.specs.declared.event.Event.{Event}
use Rattle.gateway_state.specs.Gateway.{initial}
use Rattle.gateway_state.specs.Settled.{AreApart, HasSubsApart}
use Rattle.gateway_state.specs.Step.{run}
use Rattle.gateway_state.proofs.Kept.{IsKept, KeepsLinks, messages_kept}
use Rattle.gateway_state.proofs.KeptByRuns.{kept_run}
use Rattle.gateway_state.proofs.RowTests.{any_changed, none_filtered}

-- a subscription under the ID of another one is not the other's
pub other_key : (a b : ClientSub) → is_sub a.session a.id b ≡ false → is_sub b.session b.id a ≡ false
other_key a b e = by (is_sub b.session b.id a) refl
  where
    by : (same : Bool) → is_sub b.session b.id a ≡ same → is_sub b.session b.id a ≡ false
    by false is = is
    by true is =
        let parts = and_parts (eqb a.session b.session) (eqb a.id b.id) is in
        let session = eq-eqb b.session a.session (sym (eqb-true a.session b.session parts.0)) in
        let id = eq-eqb b.id a.id (sym (eqb-true a.id b.id parts.1)) in
        absurd (true≢false (sym (and_from (eqb b.session a.session) (eqb b.id a.id) session id) ∙ e))

pub itself : (sub : ClientSub) → is_sub sub.session sub.id sub ≡ true
itself sub = and_from (eqb sub.session sub.session) (eqb sub.id sub.id) (eq-eqb sub.session sub.session refl) (eq-eqb sub.id sub.id refl)

apart_filtered : (test : ClientSub → Bool) (rows : List ClientSub) → AreApart rows → AreApart (filter test rows)
apart_filtered test [] apart = apart
apart_filtered test (row ∷ rows) apart =
    let rest = apart_filtered test rows apart.1 in
    elim (test row) as (λ t. AreApart (cond t (row ∷ filter test rows) (filter test rows)))
    [ true ↦ (none_filtered (is_sub row.session row.id) test rows apart.0, rest) | false ↦ rest ]

pub apart_owed : (session id : ℕ) (owed : Bool) (rows : List ClientSub) → AreApart rows → AreApart (change_first (is_sub session id) (with_owed owed) rows)
apart_owed session id owed [] apart = apart
apart_owed session id owed (row ∷ rows) apart =
    elim (is_sub session id row) as (λ t. AreApart (cond t (with_owed owed row ∷ rows) (row ∷ change_first (is_sub session id) (with_owed owed) rows))) [
      | true ↦ apart
      | false ↦ (any_changed (is_sub row.session row.id) (is_sub session id) (with_owed owed) rows (λ x. refl) ∙ apart.0, apart_owed session id owed rows apart.1)
    ]

-- a subscription under an ID that is free
apart_pushed : (rows : List ClientSub) (new : ClientSub) → is_some (find (is_sub new.session new.id) rows) ≡ false → AreApart rows → AreApart (rows ++ new ∷ [])
apart_pushed [] new free apart = (refl, apart)
apart_pushed (row ∷ rows) new free apart = by (is_sub new.session new.id row) refl free (λ rest. apart_pushed rows new rest apart.1)
  where
    by : (same : Bool) → is_sub new.session new.id row ≡ same → is_some (cond same (Some row) (find (is_sub new.session new.id) rows)) ≡ false
        → (is_some (find (is_sub new.session new.id) rows) ≡ false → AreApart (rows ++ new ∷ [])) → AreApart (row ∷ rows ++ new ∷ [])
    by true is free rest = absurd (true≢false free)
    by false is free rest =
        (list_any-append (is_sub row.session row.id) rows (new ∷ []) ∙ rw (apart.0, other_key new row is) refl, rest free)

pub subs_apart_kept : IsKept HasSubsApart
subs_apart_kept = record {
  rows = record {
    messages = messages_kept HasSubsApart (λ dest change w apart. apart);
    connection_added = λ dest w rowed apart. apart;
    session_added = λ row w there apart. apart;
    session_changed = λ number change w same apart. apart;
    server_added = λ row w apart. apart;
    server_changed = λ number minor w apart. apart;
    cache_left = λ stays w apart. apart;
    cached = λ server cid change w apart. apart;
    bare = λ cid w apart. apart;
    searches = λ rows w apart. apart;
    policy = λ policy w apart. apart;
    limits = λ limits w apart. apart;
    last_age = λ last w apart. apart;
    channel_added = λ session cid name real rights w fixed apart. apart;
    channel_changed = λ session sid reach rights w apart. apart;
    channel_removed = λ session sid w apart. apart_filtered (is_not_sub_on session sid) w.clients.subs apart;
    sub_added = λ sub w free on apart. apart_pushed w.clients.subs sub free apart;
    sub_changed = λ session id owed w apart. apart_owed session id owed w.clients.subs apart;
    sub_removed = λ session id w apart. apart_filtered (is_not_sub session id) w.clients.subs apart;
    read_added = λ read w there apart. apart;
    read_removed = λ read w apart. apart;
    write_added = λ write w on next apart. apart;
    write_removed = λ server id w apart. apart;
    link_changed = λ server cid state rights w apart. apart;
    subscription_made = λ subject server cid mask count sent w apart. apart;
    subscription_ended = λ subject server cid w apart. apart;
    link_removed = λ server cid w apart. apart;
  };
  outbox_changed = λ dest change w apart. apart;
  session_removed = λ session w apart. apart_filtered (is_not_sub_of session) w.clients.subs apart;
  server_removed = λ server w apart. apart;
}

pub subs_apart_with_links : KeepsLinks HasSubsApart
subs_apart_with_links = λ server name w missing standing apart. apart

pub run_subs_apart : (config : Config) (policy : Policy) (events : List Event) → HasSubsApart (run (initial config policy) events)
run_subs_apart config policy events = kept_run HasSubsApart subs_apart_kept subs_apart_with_links (initial config policy) events (record {})
