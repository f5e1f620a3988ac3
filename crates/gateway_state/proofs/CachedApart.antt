-- No link ever has two rows of last messages.
use Rattle.std.proofs.Common.{◌≡◌, ℕ, ◌≤◌, List, [], ◌∷◌, Bool, true, false, cond, eqb, length, refl, sym, ap, subst, ◌∙◌, arith}
use Rattle.std.specs.Prelude.{filter}
use Rattle.std.proofs.lemmas.Bool.{eqb-true}
use Rattle.value_cache.specs.Held.{Held, nothing}
use Rattle.gateway_state.specs.declared.cached.LastMessage.{LastMessage}
use Rattle.gateway_state.specs.declared.config.Config.{Config}
use Rattle.rule_desk.specs.declared.policy.Policy.{Policy}
use Rattle.gateway_state.specs.declared.event.Event.{Event}
use Rattle.gateway_state.specs.CachedRows.{is_cached_by_another, is_cached_elsewhere, is_cached_of, put_row, without_told}
use Rattle.gateway_state.specs.Gateway.{Gateway, initial}
use Rattle.gateway_state.specs.Step.{run}
use Rattle.gateway_state.proofs.Kept.{IsKept, KeepsLinks, messages_kept}
use Rattle.gateway_state.proofs.KeptByRuns.{kept_run}
use Rattle.gateway_state.proofs.LinksApart.{passing_changed, passing_filtered}

abbrev pub AreCachedApart : List LastMessage → Type 0
AreCachedApart rows = (cid : ℕ) → length (filter (is_cached_of cid) rows) ≤ 1

abbrev pub HasCachedApart : Gateway → Type 0
HasCachedApart w = AreCachedApart w.cache

apart_filtered : (stays : LastMessage → Bool) (rows : List LastMessage) → AreCachedApart rows → AreCachedApart (filter stays rows)
apart_filtered stays rows apart cid =
    let most = apart cid in
    omega (arith, passing_filtered (is_cached_of cid) stays rows)

-- a change of what is held of one link leaves the rows of others, and one row at most where there was one at most
module _ (server cid : ℕ) (change : Held → Held) where
  others_left : (other : ℕ) (rows : List LastMessage) → eqb cid other ≡ false → filter (is_cached_of other) (put_row server cid change rows) ≡ filter (is_cached_of other) rows
  others_left other [] differs = rw differs refl
  others_left other (row ∷ rows) differs = by (is_cached_of cid row) refl (others_left other rows differs)
    where
      by : (here : Bool) → is_cached_of cid row ≡ here → filter (is_cached_of other) (put_row server cid change rows) ≡ filter (is_cached_of other) rows
          → filter (is_cached_of other) (cond here (record row { held = change row.held } ∷ rows) (row ∷ put_row server cid change rows)) ≡ filter (is_cached_of other) (row ∷ rows)
      by true is rest =
          let elsewhere : is_cached_of other row ≡ false = ap (λ (n : ℕ). eqb n other) (eqb-true row.cid cid is) ∙ differs in
          rw elsewhere refl
      by false is rest = ap (λ (l : List LastMessage). cond (is_cached_of other row) (row ∷ l) l) rest

  one_left : (rows : List LastMessage) → length (filter (is_cached_of cid) rows) ≤ 1 → length (filter (is_cached_of cid) (put_row server cid change rows)) ≤ 1
  one_left [] most = elim (eqb cid cid) as (λ t. length (cond t (new ∷ []) []) ≤ 1) [ true ↦ omega arith | false ↦ omega arith ]
    where
      new : LastMessage
      new = record { server = server; cid = cid; held = change nothing }
  one_left (row ∷ rows) most = by (is_cached_of cid row) refl most (one_left rows)
    where
      by : (here : Bool) → is_cached_of cid row ≡ here → length (cond here (row ∷ filter (is_cached_of cid) rows) (filter (is_cached_of cid) rows)) ≤ 1
          → (length (filter (is_cached_of cid) rows) ≤ 1 → length (filter (is_cached_of cid) (put_row server cid change rows)) ≤ 1)
          → length (filter (is_cached_of cid) (cond here (record row { held = change row.held } ∷ rows) (row ∷ put_row server cid change rows))) ≤ 1
      by true is most rest = rw is most
      by false is most rest = rw is (rest most)

  apart_put : (rows : List LastMessage) → AreCachedApart rows → AreCachedApart (put_row server cid change rows)
  apart_put rows apart other = by (eqb cid other) refl
    where
      by : (own : Bool) → eqb cid other ≡ own → length (filter (is_cached_of other) (put_row server cid change rows)) ≤ 1
      by true is = subst (λ (of : ℕ). length (filter (is_cached_of of) (put_row server cid change rows)) ≤ 1) (eqb-true cid other is) (one_left rows (apart cid))
      by false is = subst (λ (l : List LastMessage). length l ≤ 1) (sym (others_left other rows is)) (apart other)

cached_apart_kept : IsKept HasCachedApart
cached_apart_kept = record {
  rows = record {
    messages = messages_kept HasCachedApart (λ dest change w apart. apart);
    connection_added = λ dest w rowed apart. apart;
    session_added = λ row w there apart. apart;
    session_changed = λ number change w same apart. apart;
    server_added = λ row w apart. apart;
    server_changed = λ number minor w apart. apart;
    cache_left = λ stays w apart. apart_filtered stays w.cache apart;
    cached = λ server cid change w apart. apart_put server cid change w.cache apart;
    bare = λ cid w apart other.
        let most = apart other in
        omega (arith, passing_changed (is_cached_of other) (is_cached_of cid) without_told w.cache (λ row. refl));
    searches = λ rows w apart. apart;
    policy = λ policy w apart. apart;
    limits = λ limits w apart. apart;
    last_age = λ last w apart. apart;
    channel_added = λ session cid name real rights w fixed apart. apart;
    channel_changed = λ session sid reach rights w apart. apart;
    channel_removed = λ session sid w apart. apart;
    sub_added = λ sub w free on apart. apart;
    sub_changed = λ session id owed w apart. apart;
    sub_removed = λ session id w apart. apart;
    read_added = λ read w there apart. apart;
    read_removed = λ read w apart. apart;
    write_added = λ write w on next apart. apart;
    write_removed = λ server id w apart. apart;
    link_changed = λ server cid state rights w apart. apart;
    subscription_made = λ subject server cid mask count sent w apart. apart;
    subscription_ended = λ subject server cid w apart. apart;
    link_removed = λ server cid w apart. apart_filtered (is_cached_elsewhere cid) w.cache apart;
  };
  outbox_changed = λ dest change w apart. apart;
  session_removed = λ session w apart. apart;
  server_removed = λ server w apart. apart_filtered (is_cached_by_another server) w.cache apart;
}

cached_apart_with_links : KeepsLinks HasCachedApart
cached_apart_with_links = λ server name w missing standing apart. apart

pub run_cached_apart : (config : Config) (policy : Policy) (events : List Event) → HasCachedApart (run (initial config policy) events)
run_cached_apart config policy events = kept_run HasCachedApart cached_apart_kept cached_apart_with_links (initial config policy) events (λ cid. omega arith)
