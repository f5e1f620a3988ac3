-- Every channel belongs to a session that stands and whose host is fixed.
use Rattle.std.proofs.Common.{◌≡◌, ℕ, ◌+◌, List, [], ◌∷◌, ◌++◌, Bool, true, false, cond, eqb, not, ◌||◌, Some, refl, sym, ap, subst, ◌∙◌, add-zero}
use Rattle.std.specs.Prelude.{◌==◌, filter}
use Rattle.std.specs.List.{count_by, find, fold, list_all, list_any}
use Rattle.std.proofs.lemmas.Bool.{and_parts, eq-eqb, eqb-true, true≢false}
use Rattle.std.proofs.lemmas.List.Folds.{list_all-append}
use Rattle.rows.specs.Rows.{change_first}
use Rattle.named_rows.specs.declared.channels.Channel.{Channel}
use Rattle.channel_table.specs.declared.sessions.Session.{Session}
use Rattle.named_rows.specs.Channels.{is_channel, is_channel_of, is_not_channel, is_not_channel_of, with_reach_and_rights}
use Rattle.channel_table.specs.ClientRows.{channel_count}
use Rattle.channel_table.specs.Sessions.{is_not_numbered, is_numbered}
use Rattle.rule_desk.specs.declared.policy.Policy.{Policy}
use Rattle.gateway_state.specs.declared.config.Config.{Config}
use Rattle.gateway_state.specs.declared.event.Event.{Event}
use Rattle.gateway_state.specs.Direct.{direct_effect}
use Rattle.gateway_state.specs.Gateway.{Gateway, initial}
use Rattle.gateway_state.specs.Reached.{IsReached}
use Rattle.gateway_state.specs.Settled.{HasHostsFixed, has_host_fixed, is_host_fixed}
use Rattle.gateway_state.specs.Step.{run}
use Rattle.gateway_state.proofs.Kept.{IsKept, KeepsLinks, KeepsSession, messages_kept, new_channel}
use Rattle.gateway_state.proofs.KeptByRuns.{kept_direct_effect, kept_run}
use Rattle.gateway_state.proofs.RowTests.{all_changed, all_filtered, all_left, all_weaker, found_left}

-- by the rows of sessions and the number of one
abbrev is_fixed_in : List Session → ℕ → Bool
is_fixed_in rows number = is_host_fixed (find (is_numbered number) rows)

abbrev has_fixed_in : List Session → Channel → Bool
has_fixed_in rows c = is_fixed_in rows c.session

-- a session more leaves the others
fixed_more : (number : ℕ) (rows : List Session) (new : Session) → is_fixed_in rows number ≡ true → is_fixed_in (rows ++ new ∷ []) number ≡ true
fixed_more number [] new fixed = absurd cc
fixed_more number (row ∷ rows) new fixed =
    elim (is_numbered number row) as (λ t. is_host_fixed (cond t (Some row) (find (is_numbered number) rows)) ≡ true → is_host_fixed (cond t (Some row) (find (is_numbered number) (rows ++ new ∷ []))) ≡ true)
    [ true ↦ λ is. is | false ↦ λ is. fixed_more number rows new is ] fixed

-- so does a change that keeps sessions
fixed_changed : (number other : ℕ) (change : Session → Session) (rows : List Session) → KeepsSession change → is_fixed_in rows number ≡ true → is_fixed_in (change_first (is_numbered other) change rows) number ≡ true
fixed_changed number other change [] same fixed = absurd cc
fixed_changed number other change (row ∷ rows) same fixed = by (is_numbered other row) (is_numbered number row) refl fixed (λ later. fixed_changed number other change rows same later)
  where
    numbered : is_numbered number (change row) ≡ is_numbered number row
    numbered = ap (λ (n : ℕ). eqb n number) (same.same_number row)

    by : (changed found : Bool) → is_numbered number row ≡ found → is_host_fixed (cond found (Some row) (find (is_numbered number) rows)) ≡ true
        → (is_fixed_in rows number ≡ true → is_fixed_in (change_first (is_numbered other) change rows) number ≡ true)
        → is_fixed_in (cond changed (change row ∷ rows) (row ∷ change_first (is_numbered other) change rows)) number ≡ true
    by true true is fixed rest = rw (numbered, is) (same.stays_fixed row fixed)
    by true false is fixed rest = rw (numbered, is) fixed
    by false true is fixed rest = rw is fixed
    by false false is fixed rest = rw is (rest fixed)

-- a session that goes leaves the others
another_session : (number other : ℕ) (row : Session) → not (eqb other number) ≡ true → is_numbered other row ≡ true → is_not_numbered number row ≡ true
another_session number other row apart is = ap (λ (n : ℕ). not (eqb n number)) (eqb-true row.number other is) ∙ apart

fixed_left : (number : ℕ) (rows : List Session) (channels : List Channel) → list_all (has_fixed_in rows) channels ≡ true
    → list_all (has_fixed_in (filter (is_not_numbered number) rows)) (filter (is_not_channel_of number) channels) ≡ true
fixed_left number rows channels fixed =
    all_left (has_fixed_in rows) (has_fixed_in (filter (is_not_numbered number) rows)) (is_not_channel_of number) channels
    (λ c apart there. ap is_host_fixed (found_left (is_numbered c.session) (is_not_numbered number) rows (λ row is. another_session number c.session row apart is)) ∙ there) fixed

hosts_fixed_kept : IsKept HasHostsFixed
hosts_fixed_kept = record {
  rows = record {
    messages = messages_kept HasHostsFixed (λ dest change w fixed. fixed);
    connection_added = λ dest w rowed fixed. fixed;
    session_added = λ row w there fixed.
        all_weaker (has_host_fixed w) (has_fixed_in (w.clients.sessions ++ row ∷ [])) w.clients.channels (λ c is. fixed_more c.session w.clients.sessions row is) fixed;
    session_changed = λ number change w same fixed.
        all_weaker (has_host_fixed w) (has_fixed_in (change_first (is_numbered number) change w.clients.sessions)) w.clients.channels
        (λ c is. fixed_changed c.session number change w.clients.sessions same is) fixed;
    server_added = λ row w fixed. fixed;
    server_changed = λ number minor w fixed. fixed;
    cache_left = λ stays w fixed. fixed;
    cached = λ server cid change w fixed. fixed;
    bare = λ cid w fixed. fixed;
    searches = λ rows w fixed. fixed;
    policy = λ policy w fixed. fixed;
    limits = λ limits w fixed. fixed;
    last_age = λ last w fixed. fixed;
    channel_added = λ session cid name real rights w host fixed.
        list_all-append (has_host_fixed w) w.clients.channels (new_channel session cid name real rights w ∷ []) ∙ rw (fixed, host) refl;
    channel_changed = λ session sid reach rights w fixed.
        all_changed (has_host_fixed w) (is_channel session sid) (with_reach_and_rights reach rights) w.clients.channels (λ c. refl) ∙ fixed;
    channel_removed = λ session sid w fixed. all_filtered (has_host_fixed w) (is_not_channel session sid) w.clients.channels fixed;
    sub_added = λ sub w free there fixed. fixed;
    sub_changed = λ session id owed w fixed. fixed;
    sub_removed = λ session id w fixed. fixed;
    read_added = λ read w there fixed. fixed;
    read_removed = λ read w fixed. fixed;
    write_added = λ write w there next fixed. fixed;
    write_removed = λ server id w fixed. fixed;
    link_changed = λ server cid state rights w fixed. fixed;
    subscription_made = λ subject server cid mask count sent w fixed. fixed;
    subscription_ended = λ subject server cid w fixed. fixed;
    link_removed = λ server cid w fixed. fixed;
  };
  outbox_changed = λ dest change w fixed. fixed;
  session_removed = λ session w fixed. fixed_left session w.clients.sessions w.clients.channels fixed;
  server_removed = λ server w fixed. fixed;
}

hosts_fixed_with_links : KeepsLinks HasHostsFixed
hosts_fixed_with_links = λ server name w missing standing fixed. fixed

pub run_hosts_fixed : (config : Config) (policy : Policy) (events : List Event) → HasHostsFixed (run (initial config policy) events)
run_hosts_fixed config policy events = kept_run HasHostsFixed hosts_fixed_kept hosts_fixed_with_links (initial config policy) events refl

-- where an event begins
pub reached_hosts : (w : Gateway) → IsReached w → HasHostsFixed w
reached_hosts w reached = subst HasHostsFixed (sym reached.by_run) (run_hosts_fixed reached.config reached.policy reached.events)

-- after its direct effect
pub hosts_after_effect : (w : Gateway) (event : Event) → IsReached w → HasHostsFixed (direct_effect w event)
hosts_after_effect w event reached = kept_direct_effect HasHostsFixed hosts_fixed_kept hosts_fixed_with_links w event (reached_hosts w reached)

-- where rows are counted there is one
none_counted : {A : Type 0} (test : A → Bool) (at : ℕ) (rows : List A) → list_any test rows ≡ false → fold (λ (n : ℕ) (row : A). n + cond (test row) 1 0) at rows ≡ at
none_counted test at [] none = refl
none_counted {A = A} test at (row ∷ rows) none =
    elim (test row) as (λ t. (t || list_any test rows) ≡ false → fold (λ (n : ℕ) (r : A). n + cond (test r) 1 0) (at + cond t 1 0) rows ≡ at)
    [ true ↦ λ h. cc | false ↦ λ h. none_counted test (at + 0) rows h ∙ add-zero at ] none

some_counted : {A : Type 0} (test : A → Bool) (rows : List A) → (count_by test rows == 0) ≡ false → list_any test rows ≡ true
some_counted test rows counted = by (list_any test rows) refl
  where
    by : (any : Bool) → list_any test rows ≡ any → any ≡ true
    by true is = refl
    by false is = absurd (true≢false (sym (eq-eqb (count_by test rows) 0 (none_counted test 0 rows is)) ∙ counted))

-- the session of a channel is the one that is found under its number
fixed_of_channel : (rows : List Session) (number : ℕ) (row : Session) (channels : List Channel) → list_all (has_fixed_in rows) channels ≡ true
    → find (is_numbered number) rows ≡ Some row → list_any (is_channel_of number) channels ≡ true → row.host_fixed ≡ true
fixed_of_channel rows number row [] fixed found some = absurd cc
fixed_of_channel rows number row (c ∷ channels) fixed found some = by (is_channel_of number c) refl some (λ later. fixed_of_channel rows number row channels parts.1 found later)
  where
    parts : (has_fixed_in rows c ≡ true) × (list_all (has_fixed_in rows) channels ≡ true)
    parts = and_parts (has_fixed_in rows c) (list_all (has_fixed_in rows) channels) fixed

    by : (own : Bool) → eqb c.session number ≡ own → (own || list_any (is_channel_of number) channels) ≡ true → (list_any (is_channel_of number) channels ≡ true → row.host_fixed ≡ true) → row.host_fixed ≡ true
    by true is some rest =
        sym (ap is_host_fixed found) ∙ subst (λ (n : ℕ). is_fixed_in rows n ≡ true) (eqb-true c.session number is) parts.0
    by false is some rest = rest some

-- a session that has a channel has its host fixed
pub host_is_fixed : (w : Gateway) (number : ℕ) (row : Session) → HasHostsFixed w → find (is_numbered number) w.clients.sessions ≡ Some row
    → (channel_count number w.clients == 0) ≡ false → row.host_fixed ≡ true
host_is_fixed w number row fixed found counted =
    fixed_of_channel w.clients.sessions number row w.clients.channels fixed found (some_counted (is_channel_of number) w.clients.channels counted)
