-- No name ever has two links.
use Rattle.std.proofs.Common.{◌≡◌, ℕ, ◌+◌, ◌≤◌, List, [], ◌∷◌, ◌++◌, Bool, true, false, cond, length, Some, None, refl, ap, subst, ◌∙◌, arith}
use Rattle.std.specs.Prelude.{filter, is_some}
use Rattle.std.specs.List.{find}
use Rattle.std.proofs.lemmas.Slice.Eq.{bytes_eq-Decides}
use Rattle.rows.specs.Rows.{change_first}
use Rattle.link_table.specs.declared.links.LinkRow.{LinkRow}
use Rattle.link_table.specs.Links.{is_link, is_named, is_not_link, is_not_of, new_link, with_state, with_subscription}
use Rattle.gateway_state.specs.declared.config.Config.{Config}
use Rattle.rule_desk.specs.declared.policy.Policy.{Policy}
use Rattle.gateway_state.specs.declared.event.Event.{Event}
use Rattle.gateway_state.specs.Gateway.{initial}
use Rattle.gateway_state.specs.Notices.{next_sub_id}
use Rattle.gateway_state.specs.Servers.{next_cid}
use Rattle.gateway_state.specs.Settled.{HasLinksApart}
use Rattle.gateway_state.specs.Step.{run}
use Rattle.gateway_state.proofs.Kept.{IsKept, KeepsLinks, messages_kept}
use Rattle.gateway_state.proofs.KeptByRuns.{kept_run}

-- of fewer rows no more pass
pub passing_filtered : {A : Type 0} (test other : A → Bool) (rows : List A) → length (filter test (filter other rows)) ≤ length (filter test rows)
passing_filtered test other [] = omega arith
passing_filtered test other (row ∷ rows) =
    let rest = passing_filtered test other rows in
    elim (other row) as (λ t. length (filter test (cond t (row ∷ filter other rows) (filter other rows))) ≤ length (cond (test row) (row ∷ filter test rows) (filter test rows))) [
      | true ↦
          elim (test row) as (λ t. length (cond t (row ∷ filter test (filter other rows)) (filter test (filter other rows))) ≤ length (cond t (row ∷ filter test rows) (filter test rows)))
          [ true ↦ omega arith | false ↦ rest ]
      | false ↦
          elim (test row) as (λ t. length (filter test (filter other rows)) ≤ length (cond t (row ∷ filter test rows) (filter test rows)))
          [ true ↦ omega arith | false ↦ rest ]
    ]

-- a change that the test doesn't see leaves as many
pub passing_changed : {A : Type 0} (test other : A → Bool) (change : A → A) (rows : List A) → ((row : A) → test (change row) ≡ test row)
    → length (filter test (change_first other change rows)) ≡ length (filter test rows)
passing_changed test other change [] unseen = refl
passing_changed test other change (row ∷ rows) unseen =
    elim (other row) as (λ t. length (filter test (cond t (change row ∷ rows) (row ∷ change_first other change rows))) ≡ length (cond (test row) (row ∷ filter test rows) (filter test rows))) [
      | true ↦
          rw (unseen row)
          (elim (test row) as (λ t. length (cond t (change row ∷ filter test rows) (filter test rows)) ≡ length (cond t (row ∷ filter test rows) (filter test rows))) [ true ↦ refl | false ↦ refl ])
      | false ↦
          let rest = passing_changed test other change rows unseen in
          elim (test row) as (λ t. length (cond t (row ∷ filter test (change_first other change rows)) (filter test (change_first other change rows))) ≡ length (cond t (row ∷ filter test rows) (filter test rows)))
          [ true ↦ omega arith | false ↦ rest ]
    ]

-- where none is found none passes
none_passing : {A : Type 0} (test : A → Bool) (rows : List A) → is_some (find test rows) ≡ false → filter test rows ≡ []
none_passing test [] none = refl
none_passing test (row ∷ rows) none =
    elim (test row) as (λ t. is_some (cond t (Some row) (find test rows)) ≡ false → cond t (row ∷ filter test rows) (filter test rows) ≡ [])
    [ true ↦ λ h. cc | false ↦ λ h. none_passing test rows h ] none

passing_pushed : {A : Type 0} (test : A → Bool) (rows : List A) (new : A) → length (filter test (rows ++ new ∷ [])) ≡ length (filter test rows) + cond (test new) 1 0
passing_pushed test [] new = elim (test new) as (λ t. length (cond t (new ∷ []) []) ≡ 0 + cond t 1 0) [ true ↦ omega arith | false ↦ omega arith ]
passing_pushed test (row ∷ rows) new =
    let rest = passing_pushed test rows new in
    elim (test row) as (λ t. length (cond t (row ∷ filter test (rows ++ new ∷ [])) (filter test (rows ++ new ∷ []))) ≡ length (cond t (row ∷ filter test rows) (filter test rows)) + cond (test new) 1 0)
    [ true ↦ omega arith | false ↦ rest ]

-- a link for a name that had none
apart_pushed : (links : List LinkRow) (new : LinkRow) → is_some (find (is_named new.name) links) ≡ false → ((name : List ℕ) → length (filter (is_named name) links) ≤ 1)
    → (name : List ℕ) → length (filter (is_named name) (links ++ new ∷ [])) ≤ 1
apart_pushed links new missing apart name = by (is_named name new) refl
  where
    by : (same : Bool) → is_named name new ≡ same → length (filter (is_named name) (links ++ new ∷ [])) ≤ 1
    by true e =
        let name_is : new.name ≡ name = (bytes_eq-Decides new.name name).0 e in
        let none : filter (is_named name) links ≡ [] = subst (λ (n : List ℕ). filter (is_named n) links ≡ []) name_is (none_passing (is_named new.name) links missing) in
        let count : length (filter (is_named name) (links ++ new ∷ [])) ≡ length (filter (is_named name) links) + cond true 1 0 =
        passing_pushed (is_named name) links new ∙ ap (λ (t : Bool). length (filter (is_named name) links) + cond t 1 0) e in
        let nothing : length (filter (is_named name) links) ≡ 0 = ap length none in
        omega arith
    by false e =
        let count : length (filter (is_named name) (links ++ new ∷ [])) ≡ length (filter (is_named name) links) + cond false 1 0 =
        passing_pushed (is_named name) links new ∙ ap (λ (t : Bool). length (filter (is_named name) links) + cond t 1 0) e in
        let most = apart name in
        omega arith

apart_filtered : (links : List LinkRow) (test : LinkRow → Bool) → ((name : List ℕ) → length (filter (is_named name) links) ≤ 1) → (name : List ℕ) → length (filter (is_named name) (filter test links)) ≤ 1
apart_filtered links test apart name =
    let most = apart name in
    omega (arith, passing_filtered (is_named name) test links)

pub apart_changed : (links : List LinkRow) (test : LinkRow → Bool) (change : LinkRow → LinkRow) → ((name : List ℕ) (link : LinkRow) → is_named name (change link) ≡ is_named name link)
    → ((name : List ℕ) → length (filter (is_named name) links) ≤ 1) → (name : List ℕ) → length (filter (is_named name) (change_first test change links)) ≤ 1
apart_changed links test change unseen apart name =
    let most = apart name in
    omega (arith, passing_changed (is_named name) test change links (unseen name))

pub links_apart_kept : IsKept HasLinksApart
links_apart_kept = record {
  rows = record {
    messages = messages_kept HasLinksApart (λ dest change w apart. apart);
    connection_added = λ dest w rowed apart. apart;
    session_added = λ row w there apart. apart;
    session_changed = λ number change w same apart. apart;
    server_added = λ row w apart. apart;
    server_changed = λ number minor w apart. apart;
    cache_left = λ stays w apart. apart;
    cached = λ server cid change w apart. apart;
    bare = λ cid w apart. apart;
    searches = λ rows w apart. apart;
    policy = λ policy w apart. apart;
    limits = λ limits w apart. apart;
    last_age = λ last w apart. apart;
    channel_added = λ session cid name real rights w fixed apart. apart;
    channel_changed = λ session sid reach rights w apart. apart;
    channel_removed = λ session sid w apart. apart;
    sub_added = λ sub w free on apart. apart;
    sub_changed = λ session id owed w apart. apart;
    sub_removed = λ session id w apart. apart;
    read_added = λ read w there apart. apart;
    read_removed = λ read w apart. apart;
    write_added = λ write w on next apart. apart;
    write_removed = λ server id w apart. apart;
    link_changed = λ server cid state rights w apart. apart_changed w.upstream.links (is_link server cid) (with_state state rights) (λ name link. refl) apart;
    subscription_made = λ subject server cid mask count sent w apart.
        apart_changed w.upstream.links (is_link server cid) (with_subscription subject (Some (record { id = next_sub_id w server; mask = mask; count = count; sent = sent }))) (λ name link. refl) apart;
    subscription_ended = λ subject server cid w apart. apart_changed w.upstream.links (is_link server cid) (with_subscription subject None) (λ name link. refl) apart;
    link_removed = λ server cid w apart. apart_filtered w.upstream.links (is_not_link server cid) apart;
  };
  outbox_changed = λ dest change w apart. apart;
  session_removed = λ session w apart. apart;
  server_removed = λ server w apart. apart_filtered w.upstream.links (is_not_of server) apart;
}

pub links_apart_with_links : KeepsLinks HasLinksApart
links_apart_with_links = λ server name w missing standing apart.
    apart_pushed w.upstream.links (new_link server (next_cid w) name) missing apart

pub run_links_apart : (config : Config) (policy : Policy) (events : List Event) → HasLinksApart (run (initial config policy) events)
run_links_apart config policy events = kept_run HasLinksApart links_apart_kept links_apart_with_links (initial config policy) events (λ name. omega arith)
