-- A client's connection is gone: servers are told what is wanted now of the variables of its channels, and
-- nobody else is told anything.
use Rattle.std.proofs.Common.{◌≡◌, ℕ, List, [], ◌∷◌, ◌++◌, Bool, true, false, cond, eqb, ltb, not, ◌&&◌, ◌||◌, Option, Some, None, refl, sym, ap, ◌∙◌}
use Rattle.std.specs.Prelude.{bit_and, filter, filter_map, map}
use Rattle.std.specs.List.{All, find, fold, list_any}
use Rattle.std.proofs.lemmas.Bool.{and_parts, eq-eqb, eqb-true, true≢false}
use Rattle.std.proofs.lemmas.List.Elements.{All-cons, All-nil, All-weaker, filter_passes}
use Rattle.ca_message.specs.declared.codes.TheConstants.{ECA_NORDACCESS}
use Rattle.channel_table.specs.ClientRows.{ClientRows}
use Rattle.named_rows.specs.declared.channels.Channel.{Channel}
use Rattle.named_rows.specs.declared.reads.WaitingRead.{WaitingRead}
use Rattle.named_rows.specs.declared.subs.ClientSub.{ClientSub}
use Rattle.named_rows.specs.Channels.{is_channel, is_channel_of, is_not_channel_of, is_on}
use Rattle.named_rows.specs.Reads.{is_not_read_of, is_read_of}
use Rattle.channel_table.specs.Sessions.{is_not_numbered, is_numbered}
use Rattle.named_rows.specs.Subs.{is_not_sub_of, is_sub_of}
use Rattle.named_rows.specs.Demand.{own_ask}
use Rattle.pv_alias.specs.declared.lead.Lead.{Lead}
use Rattle.gateway_state.specs.declared.connections.Connection.{Connection}
use Rattle.gateway_state.specs.declared.event.Dest.TheVariants.{Session as ToSession}
use Rattle.gateway_state.specs.declared.notice.LinkNotice.{LinkNotice}
use Rattle.gateway_state.specs.declared.notice.ReadNotice.TheVariants.{Refused}
use Rattle.gateway_state.specs.Connections.{is_not_to, is_to, outbox_in}
use Rattle.gateway_state.specs.Gateway.{Gateway}
use Rattle.gateway_state.specs.Interest.{is_read_through, is_reader, is_subscriber, reader_ask}
use Rattle.gateway_state.specs.Notices.{answered_over, channel_notice, channel_notices, link_told, notice_on, read_notice, read_notices, reads_told}
use Rattle.gateway_state.specs.Resolution.{is_real, rights_left}
use Rattle.gateway_state.specs.Rights.{channel_of, is_served, lead_for, lead_in, link_connected, link_rights, may_read, rights_of}
use Rattle.gateway_state.specs.Searches.{leads_to}
use Rattle.gateway_state.specs.Sessions.{lost}
use Rattle.gateway_state.specs.Settled.{AreNumbersApart, IsSettled}
use Rattle.gateway_state.specs.Step.{consequences}
use Rattle.gateway_state.specs.Updates.{is_unreadable, is_withheld, paused_in, outbox_takes_updates, update_notice, update_notices, update_on, update_over, updates_told, withheld}
use Rattle.gateway_state.specs.Variables.{channel_names, connected, is_among, is_wanted, link_of}
use Rattle.gateway_state.proofs.SettledChannels.{notice_by}
use Rattle.gateway_state.proofs.SettledMeaning.{none_told}
use Rattle.gateway_state.proofs.SettledSteps.{found_is_on, reads_stay, updates_stay}
use Rattle.touched_rows.specs.Touched.{is_link_among, link_notices_among, links_told_among}
use Rattle.touched_rows.specs.Touches.{names_of}
use Rattle.touched_rows.proofs.Cleared.{all_of, left_have, not_so}
use Rattle.touched_rows.proofs.Drained.{other_session}
use Rattle.touched_rows.proofs.LessGiven.{is_given_to, read_on-stays, update_if_open, update_on-stays}
use Rattle.touched_rows.proofs.OneLink.{IsBesideOthers, links_touched}
use Rattle.touched_rows.proofs.Passes.{from_links}
use Rattle.touched_rows.proofs.ReadersOf.{any_left, filtered_alike, found_left, none_of_left, not_not, passing_left, passing_of_left}
use Rattle.touched_rows.proofs.Sessions.{other_number}
use Rattle.touched_rows.proofs.Shapes.{links_told_shape}
use Rattle.touched_rows.proofs.TouchedAlone.{found_holds, found_passes, none_planned}
use Rattle.touched_rows.proofs.WantedLinks.{SparesWanted, neither, open_no_more, some_spare, values_no_more, wanted_link_kept, wanted_rights_kept}

-- a variable that isn't among those of the rows that pass
among_none : (test : Channel → Bool) (name : List ℕ) (rows : List Channel) → is_among (channel_names (filter test rows)) name ≡ false → All (λ (c : Channel). test c ≡ true → is_on name c ≡ false) rows
among_none test name [] none = All-nil (λ (c : Channel). test c ≡ true → is_on name c ≡ false)
among_none test name (row ∷ rows) none = by (test row) refl none (λ later. among_none test name rows later)
  where
    by : (passes : Bool) → test row ≡ passes → is_among (channel_names (cond passes (row ∷ filter test rows) (filter test rows))) name ≡ false
        → (is_among (channel_names (filter test rows)) name ≡ false → All (λ (c : Channel). test c ≡ true → is_on name c ≡ false) rows)
        → All (λ (c : Channel). test c ≡ true → is_on name c ≡ false) (row ∷ rows)
    by true is none rest =
        let parts = neither (is_on name row) (is_among (channel_names (filter test rows)) name) none in
        All-cons (λ (c : Channel). test c ≡ true → is_on name c ≡ false) row rows (λ _. parts.0) (rest parts.1)
    by false is none rest = All-cons (λ (c : Channel). test c ≡ true → is_on name c ≡ false) row rows (λ passes. absurd (true≢false (sym passes ∙ is))) (rest none)

module _ (w : Gateway) (settled : IsSettled w) (order : AreNumbersApart w) (number : ℕ) where
  abbrev x : Gateway
  x = lost w number

  abbrev names : List (List ℕ)
  names = names_of w number

  -- ---- what other sessions have

  leads_same : (session : ℕ) (name : List ℕ) → eqb session number ≡ false → lead_in x session name ≡ lead_in w session name
  leads_same session name differ =
      ap (lead_for w.policy name)
      (found_left (is_numbered session) (is_not_numbered number) w.clients.sessions
      (all_of (λ row. is_not_numbered number row ≡ false → is_numbered session row ≡ false) w.clients.sessions
      (λ row gone. other_number number session differ row (not_not (is_numbered number row) gone))))

  rights_same : (c : Channel) → eqb c.session number ≡ false → rights_of x c ≡ rights_of w c
  rights_same c differ = ap (λ (lead : Option Lead). bit_and (link_rights (link_of w c.real)) (rights_left w.policy lead)) (leads_same c.session c.asked differ)

  served_same : (c : Channel) → eqb c.session number ≡ false → is_served x c ≡ is_served w c
  served_same c differ = ap (λ (lead : Option Lead). is_real lead c.real && link_connected (link_of w c.real)) (leads_same c.session c.asked differ)

  other_channel : (session sid : ℕ) → eqb session number ≡ false → (row : Channel) → is_not_channel_of number row ≡ false → is_channel session sid row ≡ false
  other_channel session sid differ row gone =
      elim (is_channel session sid row) as (λ t. is_channel session sid row ≡ t → t ≡ false) [
        | true ↦ λ is.
            let here : row.session ≡ session = eqb-true row.session session (and_parts (eqb row.session session) (eqb row.sid sid) is).0 in
            let there : row.session ≡ number = eqb-true row.session number (not_not (is_channel_of number row) gone) in
            absurd (true≢false (sym (eq-eqb session number (sym here ∙ there)) ∙ differ))
        | false ↦ λ is. refl
      ] refl

  channel_same : (session sid : ℕ) → eqb session number ≡ false → channel_of x session sid ≡ channel_of w session sid
  channel_same session sid differ =
      found_left (is_channel session sid) (is_not_channel_of number) w.clients.channels
      (all_of (λ (row : Channel). is_not_channel_of number row ≡ false → is_channel session sid row ≡ false) w.clients.channels (other_channel session sid differ))

  found_session : (session sid : ℕ) (c : Channel) → channel_of w session sid ≡ Some c → c.session ≡ session
  found_session session sid c is =
      eqb-true c.session session (and_parts (eqb c.session session) (eqb c.sid sid) (found_passes (is_channel session sid) w.clients.channels c is)).0

  found_differs : (session sid : ℕ) (c : Channel) → channel_of w session sid ≡ Some c → eqb session number ≡ false → eqb c.session number ≡ false
  found_differs session sid c is differ = ap (λ (n : ℕ). eqb n number) (found_session session sid c is) ∙ differ

  -- ---- channels, and what is withheld

  notice_same : (c : Channel) → eqb c.session number ≡ false → channel_notice x c ≡ channel_notice w c
  notice_same c differ =
      let served = served_same c differ in
      let rights = rights_same c differ in
      λ i. notice_by (served i) (eqb c.rights_told (rights i)) (rights i) c

  channels_quiet : channel_notices x ≡ []
  channels_quiet =
      none_planned (channel_notice x) (filter (is_not_channel_of number) w.clients.channels)
      (left_have (λ (c : Channel). channel_notice w c ≡ None) (λ (c : Channel). channel_notice x c ≡ None) (is_not_channel_of number)
      (λ c stays none. notice_same c (not_so (is_channel_of number c) stays) ∙ none) w.clients.channels (none_told (channel_notice w) w.clients.channels settled.channels))

  unreadable_same : (session sid : ℕ) → eqb session number ≡ false → is_unreadable x (channel_of x session sid) ≡ is_unreadable w (channel_of w session sid)
  unreadable_same session sid differ = ap (is_unreadable x) (channel_same session sid differ) ∙ by (channel_of w session sid) refl
    where
      by : (found : Option Channel) → channel_of w session sid ≡ found → is_unreadable x found ≡ is_unreadable w found
      by None is = refl
      by (Some c) is = ap (λ (rights : ℕ). not (may_read rights)) (rights_same c (found_differs session sid c is differ))

  not_withheld : withheld x ≡ []
  not_withheld =
      none_of_left (is_withheld x) (is_withheld w) (is_not_sub_of number)
      (λ sub stays. ap (λ (held : Bool). not sub.owed && held) (unreadable_same sub.session sub.sid (not_so (is_sub_of number sub) stays))) w.clients.subs settled.held_back

  -- ---- variables that the session has no channel on

  elsewhere : (name : List ℕ) → is_among names name ≡ false → All (λ (c : Channel). is_channel_of number c ≡ true → is_on name c ≡ false) w.clients.channels
  elsewhere name none = among_none (is_channel_of number) name w.clients.channels none

  gone_elsewhere : (name : List ℕ) → is_among names name ≡ false → All (λ (c : Channel). is_not_channel_of number c ≡ false → is_on name c ≡ false) w.clients.channels
  gone_elsewhere name none =
      All-weaker (λ (c : Channel). is_channel_of number c ≡ true → is_on name c ≡ false) (λ (c : Channel). is_not_channel_of number c ≡ false → is_on name c ≡ false)
      (λ c fails gone. fails (not_not (is_channel_of number c) gone)) w.clients.channels (elsewhere name none)

  subscriber_same : (name : List ℕ) (sub : ClientSub) → is_not_sub_of number sub ≡ true → is_subscriber x name sub ≡ is_subscriber w name sub
  subscriber_same name sub stays =
      ap (is_read_through x name) (channel_same sub.session sub.sid (not_so (is_sub_of number sub) stays)) ∙ by (channel_of w sub.session sub.sid) refl
    where
      by : (found : Option Channel) → channel_of w sub.session sub.sid ≡ found → is_read_through x name found ≡ is_read_through w name found
      by None is = refl
      by (Some c) is =
          ap (λ (rights : ℕ). is_on name c && may_read rights) (rights_same c (found_differs sub.session sub.sid c is (not_so (is_sub_of number sub) stays)))

  no_subscriber : (name : List ℕ) → is_among names name ≡ false → (sub : ClientSub) → is_not_sub_of number sub ≡ false → is_subscriber w name sub ≡ false
  no_subscriber name none sub gone = by (channel_of w sub.session sub.sid) refl
    where
      by : (found : Option Channel) → channel_of w sub.session sub.sid ≡ found → is_read_through w name found ≡ false
      by None is = refl
      by (Some c) is =
          let of_session : is_channel_of number c ≡ true =
          ap (λ (n : ℕ). eqb n number) (found_session sub.session sub.sid c is) ∙ not_not (is_sub_of number sub) gone in
          let fails : is_on name c ≡ false =
          found_holds (λ (row : Channel). is_channel_of number row ≡ true → is_on name row ≡ false) (is_channel sub.session sub.sid) w.clients.channels c (elsewhere name none) is of_session in
          ap (λ (on : Bool). on && may_read (rights_of w c)) fails

  readers_same : (name : List ℕ) → is_among names name ≡ false → filter (is_reader x name) (filter (is_not_channel_of number) w.clients.channels) ≡ filter (is_reader w name) w.clients.channels
  readers_same name none =
      filtered_alike (is_reader x name) (is_reader w name) (filter (is_not_channel_of number) w.clients.channels)
      (All-weaker (λ (c : Channel). is_not_channel_of number c ≡ true) (λ (c : Channel). is_reader x name c ≡ is_reader w name c)
      (λ c stays. ap (λ (rights : ℕ). is_on name c && ltb 0 c.reach.count && may_read rights) (rights_same c (not_so (is_channel_of number c) stays)))
      (filter (is_not_channel_of number) w.clients.channels) (filter_passes (is_not_channel_of number) w.clients.channels))
      ∙ passing_left (is_reader w name) (is_not_channel_of number) w.clients.channels
      (All-weaker (λ (c : Channel). is_not_channel_of number c ≡ false → is_on name c ≡ false) (λ (c : Channel). is_not_channel_of number c ≡ false → is_reader w name c ≡ false)
      (λ c fails gone. rw (fails gone) refl) w.clients.channels (gone_elsewhere name none))

  beside : IsBesideOthers w x (is_among names)
  beside = record {
    links = refl;
    minors = λ server. refl;
    asks = λ name none.
        let subs = passing_of_left (is_subscriber x name) (is_subscriber w name) (is_not_sub_of number) (subscriber_same name) (no_subscriber name none) w.clients.subs in
        let readers = readers_same name none in
        λ i. map own_ask (subs i) ++ map reader_ask (readers i);
    wanted = λ name none.
        ap (λ (t : Bool). t || list_any (leads_to w.policy name) w.searches) (any_left (is_on name) (is_not_channel_of number) w.clients.channels (gone_elsewhere name none));
  }

  -- ---- what the notices on the links leave

  abbrev notices : List LinkNotice
  notices = link_notices_among names x

  abbrev after : Gateway
  after = links_told_among names x

  spares : SparesWanted x notices
  spares = some_spare x order.links.apart (is_link_among names)

  clients_same : after.clients ≡ x.clients
  clients_same = ap (λ (v : Gateway). v.clients) (links_told_shape notices x)

  -- the channels that are left are wanted
  wanted_there : (session sid : ℕ) (c : Channel) → channel_of x session sid ≡ Some c → is_wanted x c.real ≡ true
  wanted_there session sid c is =
      ap (λ (t : Bool). t || list_any (leads_to w.policy c.real) w.searches) (found_is_on (is_channel session sid) (filter (is_not_channel_of number) w.clients.channels) c is)

  read_same : (read : WaitingRead) → eqb read.session number ≡ false → read_notice x read ≡ read_notice w read
  read_same read differ = ap (notice_on x read) (channel_same read.session read.sid differ) ∙ by (channel_of w read.session read.sid) refl
    where
      by : (found : Option Channel) → channel_of w read.session read.sid ≡ found → notice_on x read found ≡ notice_on w read found
      by None is = refl
      by (Some c) is =
          ap (λ (rights : ℕ). cond (may_read rights) (answered_over w read (connected w c.real)) (Some (Refused read ECA_NORDACCESS)))
          (rights_same c (found_differs read.session read.sid c is differ))

  read_left : (read : WaitingRead) → is_not_read_of number read ≡ true → read_notice w read ≡ None → read_notice after read ≡ None
  read_left read stays none =
      ap (λ (rows : ClientRows). notice_on after read (find (is_channel read.session read.sid) rows.channels)) clients_same
      ∙ by (channel_of x read.session read.sid) refl (read_same read (not_so (is_read_of number read) stays) ∙ none)
    where
      by : (found : Option Channel) → channel_of x read.session read.sid ≡ found → notice_on x read found ≡ None → notice_on after read found ≡ None
      by None is none = refl
      by (Some c) is none =
          let there = wanted_there read.session read.sid c is in
          read_on-stays x after (values_no_more notices x) c (wanted_rights_kept x notices spares c there) (wanted_link_kept x notices spares c.real there) read none

  reads_quiet : read_notices after ≡ []
  reads_quiet =
      ap (λ (rows : ClientRows). filter_map (read_notice after) rows.reads) clients_same
      ∙ none_planned (read_notice after) (filter (is_not_read_of number) w.clients.reads)
      (left_have (λ (read : WaitingRead). read_notice w read ≡ None) (λ (read : WaitingRead). read_notice after read ≡ None) (is_not_read_of number)
      read_left w.clients.reads (none_told (read_notice w) w.clients.reads settled.reads))

  -- other sessions take updates as before
  open_before : (session : ℕ) → eqb session number ≡ false → is_given_to x session ≡ is_given_to w session
  open_before session differ =
      let rows = found_left (is_numbered session) (is_not_numbered number) w.clients.sessions
      (all_of (λ row. is_not_numbered number row ≡ false → is_numbered session row ≡ false) w.clients.sessions
      (λ row gone. other_number number session differ row (not_not (is_numbered number row) gone))) in
      let boxes = found_left (is_to (ToSession session)) (is_not_to (ToSession number)) w.connections
      (all_of (λ (row : Connection). is_not_to (ToSession number) row ≡ false → is_to (ToSession session) row ≡ false) w.connections
      (λ row gone. other_session row.dest number session differ (not_not (is_to (ToSession number) row) gone))) in
      λ i. not (paused_in (rows i)) && outbox_takes_updates w.limits (outbox_in (boxes i))

  said_same : (sub : ClientSub) → eqb sub.session number ≡ false → update_on x sub (channel_of x sub.session sub.sid) ≡ update_on w sub (channel_of w sub.session sub.sid)
  said_same sub differ = ap (update_on x sub) (channel_same sub.session sub.sid differ) ∙ by (channel_of w sub.session sub.sid) refl
    where
      by : (found : Option Channel) → channel_of w sub.session sub.sid ≡ found → update_on x sub found ≡ update_on w sub found
      by None is = refl
      by (Some c) is =
          ap (λ (rights : ℕ). cond (may_read rights) (update_over w sub (connected w c.real)) None) (rights_same c (found_differs sub.session sub.sid c is differ))

  update_left : (sub : ClientSub) → is_not_sub_of number sub ≡ true → update_notice w sub ≡ None → update_notice after sub ≡ None
  update_left sub stays none =
      let differ = not_so (is_sub_of number sub) stays in
      let between : update_notice x sub ≡ None =
      update_if_open w x sub (λ open_to. sym (open_before sub.session differ) ∙ open_to) (λ unsaid. said_same sub differ ∙ unsaid) none in
      update_if_open x after sub (open_no_more notices x sub.session)
      (λ unsaid. ap (λ (rows : ClientRows). update_on after sub (find (is_channel sub.session sub.sid) rows.channels)) clients_same
      ∙ by (channel_of x sub.session sub.sid) refl unsaid)
      between
    where
      by : (found : Option Channel) → channel_of x sub.session sub.sid ≡ found → update_on x sub found ≡ None → update_on after sub found ≡ None
      by None is none = refl
      by (Some c) is none =
          let there = wanted_there sub.session sub.sid c is in
          update_on-stays x after (values_no_more notices x) c (wanted_rights_kept x notices spares c there) (wanted_link_kept x notices spares c.real there) sub none

  updates_quiet : update_notices after ≡ []
  updates_quiet =
      ap (λ (rows : ClientRows). filter_map (update_notice after) rows.subs) clients_same
      ∙ none_planned (update_notice after) (filter (is_not_sub_of number) w.clients.subs)
      (left_have (λ (sub : ClientSub). update_notice w sub ≡ None) (λ (sub : ClientSub). update_notice after sub ≡ None) (is_not_sub_of number)
      update_left w.clients.subs (none_told (update_notice w) w.clients.subs settled.updates))

  pub told_after_losing : consequences (lost w number) ≡ links_told_among (names_of w number) (lost w number)
  told_after_losing =
      from_links x channels_quiet not_withheld
      ∙ ap (λ (plan : List LinkNotice). updates_told (reads_told (fold link_told x plan))) (links_touched w x (is_among names) beside settled)
      ∙ ap updates_told (reads_stay after reads_quiet)
      ∙ updates_stay after updates_quiet
