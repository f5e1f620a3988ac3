-- A read that is accepted: the server of its variable is told what is wanted now, and then the read is
-- answered, or waits.
use Rattle.std.proofs.Common.{◌≡◌, ℕ, List, [], ◌++◌, Bool, true, false, eqb, not, ◌&&◌, ◌||◌, Option, Some, None, refl, sym, ap, ◌∙◌}
use Rattle.std.specs.Prelude.{bytes_eq, filter, filter_map, map, option_map}
use Rattle.std.specs.List.{cons_option, find, fold, list_any}
use Rattle.rows.specs.Rows.{change_first}
use Rattle.named_rows.specs.declared.channels.Reach.{Reach}
use Rattle.channel_table.specs.ClientRows.{ClientRows}
use Rattle.named_rows.specs.declared.channels.Channel.{Channel}
use Rattle.named_rows.specs.declared.reads.WaitingRead.{WaitingRead}
use Rattle.named_rows.specs.declared.subs.ClientSub.{ClientSub}
use Rattle.named_rows.specs.Channels.{is_channel, with_reach_and_rights, is_on}
use Rattle.named_rows.specs.Demand.{own_ask}
use Rattle.gateway_state.specs.declared.notice.ReadNotice.{ReadNotice}
use Rattle.gateway_state.specs.declared.notice.ReadNotice.TheVariants.{Answered, Refused}
use Rattle.gateway_state.specs.Clients.{accepted}
use Rattle.gateway_state.specs.Gateway.{Gateway}
use Rattle.gateway_state.specs.Interest.{is_read_through, is_reader, is_subscriber, reader_ask}
use Rattle.gateway_state.specs.Notices.{channel_notice, channel_notices, read_notice, read_notices, read_told, reads_told}
use Rattle.gateway_state.specs.Rights.{channel_of, is_served, rights_of}
use Rattle.gateway_state.specs.Searches.{leads_to}
use Rattle.gateway_state.specs.Settled.{HasLinksApart, IsSettled}
use Rattle.gateway_state.specs.Step.{consequences}
use Rattle.gateway_state.specs.Telling.{sent}
use Rattle.gateway_state.specs.Updates.{is_unreadable, update_notice, update_notices, updates_told, withheld}
use Rattle.gateway_state.specs.Variables.{is_wanted}
use Rattle.gateway_state.proofs.RowTests.{any_changed}
use Rattle.gateway_state.proofs.SettledChannels.{notice_by}
use Rattle.gateway_state.proofs.SettledMeaning.{none_told}
use Rattle.gateway_state.proofs.SettledSteps.{updates_stay}
use Rattle.touched_rows.specs.Touched.{interest_told, one_read_told, read_told_if}
use Rattle.touched_rows.proofs.Blanked.{found_blanked, passing_changed}
use Rattle.touched_rows.proofs.LessGiven.{GivesNoMore, gives_no_more, gives_the_same, plain}
use Rattle.touched_rows.proofs.OneLink.{IsBesideOthers, interest_alone, interest_told_clients, is_name, less_interest_told}
use Rattle.touched_rows.proofs.Passes.{each_read_stays, from_links, no_updates}
use Rattle.touched_rows.proofs.ReadersOf.{other_name}
use Rattle.touched_rows.proofs.Tellings.{less_read_told}
use Rattle.touched_rows.proofs.TouchedAlone.{all_with_changed, none_planned, one_planned}

one_told : (x : Gateway) (notice : Option ReadNotice) → fold read_told x (cons_option notice []) ≡ read_told_if notice x
one_told x None = refl
one_told x (Some notice) = refl

less_if_told : (x : Gateway) (notice : Option ReadNotice) → GivesNoMore x (read_told_if notice x)
less_if_told x None = gives_the_same x
less_if_told x (Some notice) = less_read_told x notice

-- an answer leaves the subscriptions
subs_if_told : (x : Gateway) (notice : Option ReadNotice) → (read_told_if notice x).clients.subs ≡ x.clients.subs
unfolding sent
subs_if_told x None = refl
subs_if_told x (Some (Refused read code)) = refl
subs_if_told x (Some (Answered read count payload)) = refl

-- whether a subscription may be read doesn't depend on what was read before
unreadable-plain : (w : Gateway) (found : Option Channel) → is_unreadable w found ≡ is_unreadable w (option_map plain found)
unreadable-plain w None = refl
unreadable-plain w (Some c) = refl

read_through-plain : (w : Gateway) (name : List ℕ) (found : Option Channel) → is_read_through w name found ≡ is_read_through w name (option_map plain found)
read_through-plain w name None = refl
read_through-plain w name (Some c) = refl

-- ---- a channel that more is read of

module _ (w : Gateway) (session sid : ℕ) (reach : Reach) (rights : ℕ) where
  abbrev change : Channel → Channel
  change = with_reach_and_rights reach rights

  abbrev channels : List Channel
  channels = change_first (is_channel session sid) change w.clients.channels

  found_plain : (number of : ℕ) → option_map plain (find (is_channel number of) channels) ≡ option_map plain (channel_of w number of)
  found_plain number of = found_blanked plain change (λ c. refl) (is_channel session sid) (is_channel number of) (λ c. refl) w.clients.channels

  unreadable_same : (sub : ClientSub) → is_unreadable w (find (is_channel sub.session sub.sid) channels) ≡ is_unreadable w (channel_of w sub.session sub.sid)
  unreadable_same sub =
      unreadable-plain w (find (is_channel sub.session sub.sid) channels) ∙ ap (is_unreadable w) (found_plain sub.session sub.sid)
      ∙ sym (unreadable-plain w (channel_of w sub.session sub.sid))

  subscriber_same : (name : List ℕ) (sub : ClientSub) → is_read_through w name (find (is_channel sub.session sub.sid) channels) ≡ is_subscriber w name sub
  subscriber_same name sub =
      read_through-plain w name (find (is_channel sub.session sub.sid) channels) ∙ ap (is_read_through w name) (found_plain sub.session sub.sid)
      ∙ sym (read_through-plain w name (channel_of w sub.session sub.sid))

-- ---- the read

module _ (w : Gateway) (settled : IsSettled w) (links_apart : HasLinksApart w) (session sid ioid dtype count : ℕ) (reach : Reach) (c : Channel)
    (on : channel_of w session sid ≡ Some c) where
  abbrev x : Gateway
  x = accepted session sid ioid dtype count reach c.rights_told w

  abbrev read : WaitingRead
  read = record { session = session; sid = sid; dtype = dtype; count = count; ioid = ioid }

  raised_quiet : (row : Channel) → find (is_channel session sid) w.clients.channels ≡ Some row → channel_notice w row ≡ None → channel_notice w (change w session sid reach c.rights_told row) ≡ None
  raised_quiet row is none =
      let same : c ≡ row = cc in
      ap (λ (old : ℕ). notice_by (is_served w row) (eqb old (rights_of w row)) (rights_of w row) (change w session sid reach c.rights_told row)) (ap (λ (k : Channel). k.rights_told) same)
      ∙ by (is_served w row) (eqb row.rights_told (rights_of w row)) none
    where
      by : (served told : Bool) → notice_by served told (rights_of w row) row ≡ None → notice_by served told (rights_of w row) (change w session sid reach c.rights_told row) ≡ None
      by false told none = absurd cc
      by true true none = refl
      by true false none = absurd cc

  channels_quiet : channel_notices x ≡ []
  channels_quiet =
      none_planned (channel_notice w) (channels w session sid reach c.rights_told)
      (all_with_changed (λ (row : Channel). channel_notice w row ≡ None) (is_channel session sid) (change w session sid reach c.rights_told) w.clients.channels
      (none_told (channel_notice w) w.clients.channels settled.channels) raised_quiet)

  not_withheld : withheld x ≡ []
  not_withheld =
      (λ i. filter (λ (sub : ClientSub). not sub.owed && unreadable_same w session sid reach c.rights_told sub i) w.clients.subs) ∙ settled.held_back

  fails_elsewhere : (other : List ℕ) → bytes_eq other c.real ≡ false → (row : Channel) → find (is_channel session sid) w.clients.channels ≡ Some row
      → (is_reader w other row ≡ false) × (is_reader w other (change w session sid reach c.rights_told row) ≡ false)
  fails_elsewhere other differ row is =
      let same : c ≡ row = cc in
      let fails : is_on other row ≡ false = ap (is_on other) (sym same) ∙ other_name other c.real differ in
      (rw fails refl, rw fails refl)

  wanted_same : (name : List ℕ) → is_wanted x name ≡ is_wanted w name
  wanted_same name =
      ap (λ (t : Bool). t || list_any (leads_to w.policy name) w.searches)
      (any_changed (is_on name) (is_channel session sid) (change w session sid reach c.rights_told) w.clients.channels (λ row. refl))

  beside : IsBesideOthers w x (is_name c.real)
  beside = record {
    links = refl;
    minors = λ server. refl;
    asks = λ other differ.
        let channels = passing_changed (is_reader w other) (is_channel session sid) (change w session sid reach c.rights_told) w.clients.channels (fails_elsewhere other differ) in
        λ i. map own_ask (filter (λ (sub : ClientSub). subscriber_same w session sid reach c.rights_told other sub i) w.clients.subs) ++ map reader_ask (channels i);
    wanted = λ other differ. wanted_same other;
  }

  abbrev y : Gateway
  y = interest_told c.real x

  less_before : GivesNoMore w x
  less_before = record {
    channels = found_plain w session sid reach c.rights_told;
    rights = λ k. refl;
    links = λ name. refl;
    values = λ cid native of many none. none;
    sessions = λ number open_to. open_to;
  }

  less : GivesNoMore w y
  less = gives_no_more w x y less_before (less_interest_told x c.real)

  clients_same : y.clients ≡ x.clients
  clients_same = interest_told_clients x c.real

  one_answered : read_notices y ≡ cons_option (read_notice y read) []
  one_answered =
      ap (λ (rows : ClientRows). filter_map (read_notice y) rows.reads) clients_same
      ∙ one_planned (read_notice y) w.clients.reads read (each_read_stays w y less w.clients.reads settled.reads)

  abbrev z : Gateway
  z = one_read_told read y

  updates_quiet : update_notices z ≡ []
  updates_quiet =
      ap (filter_map (update_notice z)) (subs_if_told y (read_notice y read) ∙ ap (λ (rows : ClientRows). rows.subs) clients_same)
      ∙ no_updates w z (gives_no_more w y z less (less_if_told y (read_notice y read))) w.clients.subs settled.updates

  pub told_after_read : consequences (accepted session sid ioid dtype count reach c.rights_told w)
      ≡ one_read_told (record { session = session; sid = sid; dtype = dtype; count = count; ioid = ioid }) (interest_told c.real (accepted session sid ioid dtype count reach c.rights_told w))
  told_after_read =
      from_links x channels_quiet not_withheld
      ∙ ap (λ (v : Gateway). updates_told (reads_told v)) (interest_alone w x c.real beside settled links_apart (λ wanted. wanted_same c.real ∙ wanted))
      ∙ ap updates_told (ap (λ (notices : List ReadNotice). fold read_told y notices) one_answered ∙ one_told y (read_notice y read))
      ∙ updates_stay z updates_quiet
