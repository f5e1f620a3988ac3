-- A session that says where it is, or who its user is: names lead where they led for all other sessions, and for
-- this one too, since what it said is fixed where it has a channel.
use Rattle.std.proofs.Common.{◌≡◌, ℕ, List, [], ◌∷◌, length, Bool, true, false, cond, eqb, not, ◌&&◌, ◌||◌, Option, Some, None, refl, sym, ap, subst, ◌∙◌, arith}
use Rattle.std.specs.Prelude.{filter}
use Rattle.std.specs.List.{All, find}
use Rattle.std.proofs.lemmas.Bool.{eqb-true}
use Rattle.std.proofs.lemmas.List.Elements.{All-cons, All-nil, All-weaker}
use Rattle.std.proofs.lemmas.List.Sums.{length-filter}
use Rattle.rows.specs.Rows.{change_first}
use Rattle.rows.proofs.RowLemmas.{change_first_kept, change_first_unfound}
use Rattle.named_rows.specs.declared.channels.Channel.{Channel}
use Rattle.channel_table.specs.declared.sessions.Session.{Session}
use Rattle.named_rows.specs.Channels.{is_channel_of}
use Rattle.channel_table.specs.ClientRows.{channel_count}
use Rattle.channel_table.specs.Sessions.{is_numbered}
use Rattle.gateway_state.specs.Clients.{called, client_named, host_named, renamed}
use Rattle.gateway_state.specs.Gateway.{Gateway}
use Rattle.gateway_state.specs.Rights.{lead_for, lead_in}
use Rattle.gateway_state.specs.Settled.{HasHostsFixed, IsSettled}
use Rattle.gateway_state.specs.Step.{consequences}
use Rattle.gateway_state.specs.Updates.{takes_updates}
use Rattle.gateway_state.proofs.HostsFixed.{host_is_fixed}
use Rattle.gateway_state.proofs.SettledSteps.{settled_stays}
use Rattle.touched_rows.proofs.Blanked.{found_other}
use Rattle.touched_rows.proofs.Sessions.{other_number, paused_kept, settled_sessions, unhosted}

-- no row passes where the list of those that do is empty
none_passing : {A : Type 0} (test : A → Bool) (rows : List A) → length (filter test rows) ≡ 0 → All (λ (row : A). test row ≡ false) rows
none_passing {A = A} test [] none = All-nil (λ (row : A). test row ≡ false)
none_passing {A = A} test (row ∷ rows) none = by (test row) refl none (λ later. none_passing test rows later)
  where
    by : (is : Bool) → test row ≡ is → length (cond is (row ∷ filter test rows) (filter test rows)) ≡ 0 → (length (filter test rows) ≡ 0 → All (λ (x : A). test x ≡ false) rows)
        → All (λ (x : A). test x ≡ false) (row ∷ rows)
    by true is none rest = absurd (omega (arith, none))
    by false is none rest = All-cons (λ (x : A). test x ≡ false) row rows is (rest none)

-- ---- any change that a fixed session doesn't see, and that leaves a session's number and pause

module _ (w : Gateway) (settled : IsSettled w) (fixed : HasHostsFixed w) (number : ℕ) (change : Session → Session)
    (unseen : (row : Session) → unhosted (change row) ≡ unhosted row) (stays : (row : Session) → row.host_fixed ≡ true → change row ≡ row) where
  abbrev rows : List Session
  rows = change_first (is_numbered number) change w.clients.sessions

  abbrev named : Gateway
  named = record w { clients = record w.clients { sessions = rows } }

  numbered : (of : ℕ) (row : Session) → is_numbered of (change row) ≡ is_numbered of row
  numbered of row = ap (λ (s : Session). is_numbered of s) (unseen row)

  -- where the session's row stays as it is
  unchanged : rows ≡ w.clients.sessions → IsSettled named
  unchanged same = subst (λ (sessions : List Session). IsSettled (record w { clients = record w.clients { sessions = sessions } })) (sym same) settled

  -- where the session has no channel
  found_same : (of : ℕ) → eqb of number ≡ false → find (is_numbered of) rows ≡ find (is_numbered of) w.clients.sessions
  found_same of differ =
      found_other (is_numbered of) (is_numbered number) change w.clients.sessions
      (λ row is. let other = other_number number of differ row is in (other, numbered of row ∙ other))

  without_channels : channel_count number w.clients ≡ 0 → IsSettled named
  without_channels none =
      settled_sessions w settled rows
      (All-weaker (λ (c : Channel). is_channel_of number c ≡ false) (λ (c : Channel). lead_for w.policy c.asked (find (is_numbered c.session) rows) ≡ lead_in w c.session c.asked)
      (λ c differ. ap (lead_for w.policy c.asked) (found_same c.session differ)) w.clients.channels (none_passing (is_channel_of number) w.clients.channels (length-filter (is_channel_of number) w.clients.channels ∙ none)))
      (λ other open_to.
      ap (λ (paused : Bool). not paused && takes_updates w other)
      (sym (paused_kept change unseen (is_numbered number) other (numbered other) w.clients.sessions))
      ∙ open_to)

  nothing_after_change : consequences named ≡ named
  nothing_after_change = settled_stays named (by (find (is_numbered number) w.clients.sessions) refl)
    where
      over : (row : Session) → find (is_numbered number) w.clients.sessions ≡ Some row → (is_none : Bool) → eqb (channel_count number w.clients) 0 ≡ is_none → IsSettled named
      over row is true none = without_channels (eqb-true (channel_count number w.clients) 0 none)
      over row is false some = unchanged (change_first_kept (is_numbered number) change w.clients.sessions row is (stays row (host_is_fixed w number row fixed is some)))

      by : (found : Option Session) → find (is_numbered number) w.clients.sessions ≡ found → IsSettled named
      by None is = unchanged (change_first_unfound (is_numbered number) change w.clients.sessions is)
      by (Some row) is = over row is (eqb (channel_count number w.clients) 0) refl

-- ---- its host

renamed_unhosted : (checks_hosts : Bool) (host : List ℕ) (row : Session) → unhosted (renamed checks_hosts host row) ≡ unhosted row
renamed_unhosted checks_hosts host row = elim (row.host_fixed || checks_hosts) as (λ t. unhosted (cond t row (record row { host = host })) ≡ unhosted row) [ true ↦ refl | false ↦ refl ]

renamed_fixed : (checks_hosts : Bool) (host : List ℕ) (row : Session) → row.host_fixed ≡ true → renamed checks_hosts host row ≡ row
renamed_fixed checks_hosts host row is = rw is refl

pub nothing_after_renaming : (w : Gateway) → IsSettled w → HasHostsFixed w → (number : ℕ) (host : List ℕ) → consequences (host_named number host w) ≡ host_named number host w
nothing_after_renaming w settled fixed number host =
    let checks_hosts : Bool = w.limits.checks_hosts in
    nothing_after_change w settled fixed number (renamed checks_hosts host) (renamed_unhosted checks_hosts host) (renamed_fixed checks_hosts host)

-- ---- its user

called_unhosted : (user : List ℕ) (row : Session) → unhosted (called user row) ≡ unhosted row
called_unhosted user row = elim row.host_fixed as (λ t. unhosted (cond t row (record row { user = user })) ≡ unhosted row) [ true ↦ refl | false ↦ refl ]

called_fixed : (user : List ℕ) (row : Session) → row.host_fixed ≡ true → called user row ≡ row
called_fixed user row is = rw is refl

pub nothing_after_calling : (w : Gateway) → IsSettled w → HasHostsFixed w → (number : ℕ) (user : List ℕ) → consequences (client_named number user w) ≡ client_named number user w
nothing_after_calling w settled fixed number user =
    nothing_after_change w settled fixed number (called user) (called_unhosted user) (called_fixed user)
