-- Sessions whose host stays: what is owed about channels and links doesn't depend on the rest of a
-- session's row.
use Rattle.std.proofs.Common.{◌≡◌, ℕ, List, [], ◌∷◌, Bool, true, false, cond, eqb, not, ◌&&◌, Option, Some, None, refl, sym, ap, ◌∙◌}
use Rattle.std.specs.Prelude.{option_map}
use Rattle.std.specs.List.{All, find, fold}
use Rattle.std.proofs.lemmas.Bool.{and_from, and_parts, eq-eqb, eqb-true, true≢false}
use Rattle.std.proofs.lemmas.List.Elements.{All-weaker}
use Rattle.rows.specs.Rows.{change_first}
use Rattle.named_rows.specs.declared.channels.Channel.{Channel}
use Rattle.channel_table.specs.declared.sessions.Session.{Session}
use Rattle.named_rows.specs.declared.subs.ClientSub.{ClientSub}
use Rattle.channel_table.specs.Sessions.{is_numbered}
use Rattle.named_rows.specs.Subs.{is_sub_of}
use Rattle.rule_desk.specs.declared.policy.Policy.{Policy}
use Rattle.gateway_state.specs.declared.notice.UpdateNotice.{UpdateNotice}
use Rattle.gateway_state.specs.Clients.{fixed, with_host_fixed}
use Rattle.gateway_state.specs.Gateway.{Gateway}
use Rattle.gateway_state.specs.Notices.{link_notices}
use Rattle.gateway_state.specs.Rights.{lead_for, lead_in}
use Rattle.gateway_state.specs.Settled.{IsSettled, IsUpToDate}
use Rattle.gateway_state.specs.Step.{consequences}
use Rattle.gateway_state.specs.Subscribing.{paused_to, with_pause}
use Rattle.gateway_state.specs.Updates.{takes_updates, paused_in, update_notice, update_told}
use Rattle.gateway_state.proofs.SettledMeaning.{all_up_to_date, none_told}
use Rattle.gateway_state.proofs.SettledSteps.{settled_stays}
use Rattle.touched_rows.specs.Touched.{updates_told_to}
use Rattle.touched_rows.proofs.Blanked.{found_blanked, found_other}
use Rattle.touched_rows.proofs.LessGiven.{is_given_to}
use Rattle.touched_rows.proofs.LinksQuiet.{links_quiet}
use Rattle.touched_rows.proofs.Passes.{from_updates}
use Rattle.touched_rows.proofs.TouchedAlone.{touched_alone}
use Rattle.touched_rows.proofs.UnseenRows.{IsUnseen, changed, channels_unseen, asks_unseen, reads_unseen, said_unseen, settled_unseen, withheld_unseen}

-- a session but for whether its host stays and whether it is paused
abbrev hosted : Session → Session
hosted row = record row { host_fixed = false; paused = false }

lead_for-hosted : (policy : Policy) (name : List ℕ) (found : Option Session) → lead_for policy name found ≡ lead_for policy name (option_map hosted found)
lead_for-hosted policy name None = refl
lead_for-hosted policy name (Some row) = refl

-- names lead where they led, after a change that leaves the host
pub leads_kept : (policy : Policy) (change : Session → Session) (test : Session → Bool) → ((row : Session) → hosted (change row) ≡ hosted row)
    → (number : ℕ) → ((row : Session) → is_numbered number (change row) ≡ is_numbered number row) → (name : List ℕ) (rows : List Session)
    → lead_for policy name (find (is_numbered number) (change_first test change rows)) ≡ lead_for policy name (find (is_numbered number) rows)
leads_kept policy change test unseen number stays name rows =
    lead_for-hosted policy name (find (is_numbered number) (change_first test change rows))
    ∙ ap (lead_for policy name) (found_blanked hosted change unseen test (is_numbered number) stays rows)
    ∙ sym (lead_for-hosted policy name (find (is_numbered number) rows))

-- ---- sessions that leave each channel's name where it led

module _ (w : Gateway) (settled : IsSettled w) (sessions : List Session)
    (leads : All (λ (c : Channel). lead_for w.policy c.asked (find (is_numbered c.session) sessions) ≡ lead_in w c.session c.asked) w.clients.channels) where
  pub leads_unseen : All (IsUnseen w sessions w.upstream.links) w.clients.channels
  leads_unseen =
      All-weaker (λ (c : Channel). lead_for w.policy c.asked (find (is_numbered c.session) sessions) ≡ lead_in w c.session c.asked) (IsUnseen w sessions w.upstream.links)
      (λ c same. (same, refl)) w.clients.channels leads

  abbrev x : Gateway
  x = changed w settled w.connections sessions w.upstream.links w.upstream.counters leads_unseen

  pub links_unseen : link_notices x ≡ []
  links_unseen = links_quiet w x (asks_unseen w settled w.connections sessions w.upstream.links w.upstream.counters leads_unseen) (λ name there. there) settled

  pub settled_sessions : ((number : ℕ) → is_given_to x number ≡ true → is_given_to w number ≡ true) → IsSettled x
  settled_sessions open_before = settled_unseen w settled w.connections sessions w.upstream.links w.upstream.counters leads_unseen open_before links_unseen

-- names that lead where they led
each_lead : (w : Gateway) → IsSettled w → (sessions : List Session) → ((number : ℕ) (name : List ℕ) → lead_for w.policy name (find (is_numbered number) sessions) ≡ lead_in w number name)
    → All (λ (c : Channel). lead_for w.policy c.asked (find (is_numbered c.session) sessions) ≡ lead_in w c.session c.asked) w.clients.channels
each_lead w settled sessions leads =
    All-weaker (IsUpToDate w) (λ (c : Channel). lead_for w.policy c.asked (find (is_numbered c.session) sessions) ≡ lead_in w c.session c.asked)
    (λ c up. leads c.session c.asked) w.clients.channels (all_up_to_date w settled)

-- ---- a session's host can no longer change

-- whether a session is paused doesn't depend on its host and user
abbrev pub unhosted : Session → Session
unhosted row = record row { host = []; user = []; host_fixed = false }

paused-unhosted : (found : Option Session) → paused_in found ≡ paused_in (option_map unhosted found)
paused-unhosted None = refl
paused-unhosted (Some row) = refl

pub paused_kept : (change : Session → Session) → ((row : Session) → unhosted (change row) ≡ unhosted row) → (test : Session → Bool) → (number : ℕ)
    → ((row : Session) → is_numbered number (change row) ≡ is_numbered number row) → (rows : List Session)
    → paused_in (find (is_numbered number) (change_first test change rows)) ≡ paused_in (find (is_numbered number) rows)
paused_kept change unseen test number stays rows =
    paused-unhosted (find (is_numbered number) (change_first test change rows))
    ∙ ap paused_in (found_blanked unhosted change unseen test (is_numbered number) stays rows)
    ∙ sym (paused-unhosted (find (is_numbered number) rows))

pub lead_after_fixing : (w : Gateway) (number of : ℕ) (name : List ℕ) → lead_in (with_host_fixed number w) of name ≡ lead_in w of name
lead_after_fixing w number of name = leads_kept w.policy fixed (is_numbered number) (λ row. refl) of (λ row. refl) name w.clients.sessions

pub settled_host_fixed : (number : ℕ) (w : Gateway) → IsSettled w → IsSettled (with_host_fixed number w)
settled_host_fixed number w settled =
    let rows : List Session = change_first (is_numbered number) fixed w.clients.sessions in
    settled_sessions w settled rows (each_lead w settled rows (lead_after_fixing w number))
    (λ other open_to. ap (λ (paused : Bool). not paused && takes_updates w other) (sym (paused_kept fixed (λ row. refl) (is_numbered number) other (λ row. refl) w.clients.sessions)) ∙ open_to)

-- ---- a session is paused, or no longer

lead_after_pausing : (w : Gateway) (number : ℕ) (paused : Bool) (of : ℕ) (name : List ℕ) → lead_in (paused_to number paused w) of name ≡ lead_in w of name
lead_after_pausing w number paused of name = leads_kept w.policy (with_pause paused) (is_numbered number) (λ row. refl) of (λ row. refl) name w.clients.sessions

active_before : (number other : ℕ) (rows : List Session) → not (paused_in (find (is_numbered other) (change_first (is_numbered number) (with_pause true) rows))) ≡ true
    → not (paused_in (find (is_numbered other) rows)) ≡ true
active_before number other [] active = active
active_before number other (row ∷ rows) active = by (is_numbered number row) active (λ rest. active_before number other rows rest)
  where
    here : (is : Bool) → not (paused_in (cond is (Some (with_pause true row)) (find (is_numbered other) rows))) ≡ true → not (paused_in (cond is (Some row) (find (is_numbered other) rows))) ≡ true
    here true active = absurd (true≢false (sym active))
    here false active = active

    later : (is : Bool) → not (paused_in (cond is (Some row) (find (is_numbered other) (change_first (is_numbered number) (with_pause true) rows)))) ≡ true
        → (not (paused_in (find (is_numbered other) (change_first (is_numbered number) (with_pause true) rows))) ≡ true → not (paused_in (find (is_numbered other) rows)) ≡ true)
        → not (paused_in (cond is (Some row) (find (is_numbered other) rows))) ≡ true
    later true active rest = active
    later false active rest = rest active

    by : (is : Bool) → not (paused_in (find (is_numbered other) (cond is (with_pause true row ∷ rows) (row ∷ change_first (is_numbered number) (with_pause true) rows)))) ≡ true
        → (not (paused_in (find (is_numbered other) (change_first (is_numbered number) (with_pause true) rows))) ≡ true → not (paused_in (find (is_numbered other) rows)) ≡ true)
        → not (paused_in (find (is_numbered other) (row ∷ rows))) ≡ true
    by true active rest = here (is_numbered other row) active
    by false active rest = later (is_numbered other row) active rest

pub nothing_after_pausing : (w : Gateway) (number : ℕ) → IsSettled w → consequences (paused_to number true w) ≡ paused_to number true w
nothing_after_pausing w number settled =
    let paused : List Session = change_first (is_numbered number) (with_pause true) w.clients.sessions in
    settled_stays (paused_to number true w)
    (settled_sessions w settled paused (each_lead w settled paused (lead_after_pausing w number true))
    (λ other open_to.
    let parts = and_parts (not (paused_in (find (is_numbered other) paused))) (takes_updates w other) open_to in
    and_from (not (paused_in (find (is_numbered other) w.clients.sessions))) (takes_updates w other) (active_before number other w.clients.sessions parts.0) parts.1))

-- the row of one session is none of another
pub other_number : (number other : ℕ) → eqb other number ≡ false → (row : Session) → is_numbered number row ≡ true → is_numbered other row ≡ false
other_number number other differ row is =
    elim (is_numbered other row) as (λ t. is_numbered other row ≡ t → t ≡ false) [
      | true ↦ λ same. absurd (true≢false (sym (eq-eqb other number (sym (eqb-true row.number other same) ∙ eqb-true row.number number is)) ∙ differ))
      | false ↦ λ same. refl
    ] refl

-- a session that wants updates again gets those that it is owed
module _ (w : Gateway) (number : ℕ) (settled : IsSettled w) where
  abbrev resumed : Gateway
  resumed = paused_to number false w

  abbrev rows : List Session
  rows = change_first (is_numbered number) (with_pause false) w.clients.sessions

  paused_as_before : (other : ℕ) → eqb other number ≡ false → paused_in (find (is_numbered other) rows) ≡ paused_in (find (is_numbered other) w.clients.sessions)
  paused_as_before other differ =
      ap paused_in
      (found_other (is_numbered other) (is_numbered number) (with_pause false) w.clients.sessions
      (λ row is. (other_number number other differ row is, other_number number other differ row is)))

  leads : All (λ (c : Channel). lead_for w.policy c.asked (find (is_numbered c.session) rows) ≡ lead_in w c.session c.asked) w.clients.channels
  leads = each_lead w settled rows (lead_after_pausing w number false)

  unseen : All (IsUnseen w rows w.upstream.links) w.clients.channels
  unseen = leads_unseen w settled rows leads

  due_as_before : (sub : ClientSub) → eqb sub.session number ≡ false → update_notice resumed sub ≡ update_notice w sub
  unfolding update_notice
  due_as_before sub differ =
      let paused = paused_as_before sub.session differ in
      let said = said_unseen w settled w.connections rows w.upstream.links w.upstream.counters unseen sub in
      λ i. cond (sub.owed && (not (paused i) && takes_updates w sub.session)) (said i) None

  quiet : All (λ (sub : ClientSub). is_sub_of number sub ≡ false → update_notice resumed sub ≡ None) w.clients.subs
  quiet =
      All-weaker (λ (sub : ClientSub). update_notice w sub ≡ None) (λ (sub : ClientSub). is_sub_of number sub ≡ false → update_notice resumed sub ≡ None)
      (λ sub none differ. due_as_before sub differ ∙ none) w.clients.subs (none_told (update_notice w) w.clients.subs settled.updates)

  pub told_after_resuming : consequences (paused_to number false w) ≡ updates_told_to number (paused_to number false w)
  told_after_resuming =
      from_updates resumed (channels_unseen w settled w.connections rows w.upstream.links w.upstream.counters unseen)
      (withheld_unseen w settled w.connections rows w.upstream.links w.upstream.counters unseen) (links_unseen w settled rows leads)
      (reads_unseen w settled w.connections rows w.upstream.links w.upstream.counters unseen)
      ∙ ap (λ (notices : List UpdateNotice). fold update_told resumed notices) (touched_alone (update_notice resumed) (is_sub_of number) w.clients.subs quiet)
