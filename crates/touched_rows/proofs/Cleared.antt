-- A channel that is given up: the server of its variable is told what is wanted now, or that the
-- variable isn't wanted any more.
use Rattle.std.proofs.Common.{◌≡◌, ℕ, List, [], ◌++◌, Bool, true, false, eqb, not, ◌&&◌, ◌||◌, Option, Some, None, refl, sym, ap, ◌∙◌}
use Rattle.std.specs.Prelude.{bytes_eq, filter, filter_map, map}
use Rattle.std.specs.List.{All, find, list_any}
use Rattle.std.proofs.lemmas.Bool.{and_from, and_parts, eq-eqb, eqb-true, true≢false}
use Rattle.std.proofs.lemmas.List.Elements.{All-filter, All-weaker, filter_passes}
use Rattle.rows.specs.Rows.{change_first}
use Rattle.channel_table.specs.ClientRows.{ClientRows}
use Rattle.named_rows.specs.declared.channels.Channel.{Channel}
use Rattle.named_rows.specs.declared.reads.WaitingRead.{WaitingRead}
use Rattle.named_rows.specs.declared.subs.ClientSub.{ClientSub}
use Rattle.named_rows.specs.Channels.{is_channel, is_not_channel, is_on}
use Rattle.named_rows.specs.Reads.{is_not_read_on}
use Rattle.named_rows.specs.Subs.{is_not_sub_on}
use Rattle.named_rows.specs.Demand.{own_ask}
use Rattle.fanout.specs.declared.outbox.Out.{Out}
use Rattle.gateway_state.specs.declared.connections.Connection.{Connection}
use Rattle.gateway_state.specs.declared.event.Dest.{Dest}
use Rattle.gateway_state.specs.declared.notice.LinkNotice.{LinkNotice}
use Rattle.gateway_state.specs.Clients.{without_channel}
use Rattle.gateway_state.specs.Connections.{given, is_to, most_for}
use Rattle.gateway_state.specs.Gateway.{Gateway}
use Rattle.gateway_state.specs.Interest.{is_read_through, is_reader, is_subscriber, reader_ask}
use Rattle.gateway_state.specs.Notices.{channel_notice, channel_notices, notice_on, read_notice, read_notices, reads_told}
use Rattle.gateway_state.specs.Rights.{channel_of, may_read, rights_of}
use Rattle.gateway_state.specs.Searches.{leads_to}
use Rattle.gateway_state.specs.Settled.{AreNumbersApart, HasLinksApart, IsSettled}
use Rattle.gateway_state.specs.Step.{consequences}
use Rattle.gateway_state.specs.Telling.{sent}
use Rattle.gateway_state.specs.Updates.{is_unreadable, is_withheld, update_notice, update_notices, update_on, updates_told, withheld}
use Rattle.gateway_state.specs.Variables.{is_wanted, link_of}
use Rattle.gateway_state.proofs.SettledMeaning.{none_told}
use Rattle.gateway_state.proofs.SettledSteps.{found_is_on, reads_stay, updates_stay}
use Rattle.touched_rows.specs.Touched.{link_notices_over, link_told_on}
use Rattle.touched_rows.proofs.Connections.{HasNoMoreRoom, no_more_room_given}
use Rattle.touched_rows.proofs.LessGiven.{read_on-stays, update_if_open, update_on-stays}
use Rattle.touched_rows.proofs.Numbered.{one_of_sid}
use Rattle.touched_rows.proofs.OneLink.{IsBesideOthers, is_name, link_told_clients, links_alone}
use Rattle.touched_rows.proofs.Passes.{from_links}
use Rattle.touched_rows.proofs.ReadersOf.{any_left, found_left, none_of_left, not_not, other_name, passing_left, passing_of_left}
use Rattle.touched_rows.proofs.Tellings.{less_connections}
use Rattle.touched_rows.proofs.TouchedAlone.{found_passes, none_planned}
use Rattle.touched_rows.proofs.WantedLinks.{SparesWanted, one_spares, open_no_more, values_no_more, wanted_link_kept, wanted_rights_kept}

pub not_so : (t : Bool) → not t ≡ true → t ≡ false
not_so true e = absurd (true≢false (sym e))
not_so false e = refl

-- all rows of a list that pass a test have what passing gives
pub left_have : {A : Type 0} (P Q : A → Type 0) (stays : A → Bool) → ((row : A) → stays row ≡ true → P row → Q row) → (rows : List A) → All P rows → All Q (filter stays rows)
left_have {A = A} P Q stays gives rows all = both (filter stays rows) (filter_passes stays rows) (All-filter stays P rows all)
  where
    both : (left : List A) → All (λ (row : A). stays row ≡ true) left → All P left → All Q left
    both left passing held k d within = gives _ (passing k d within) (held k d within)

-- what each row has, all have
pub all_of : {A : Type 0} (P : A → Type 0) (rows : List A) → ((row : A) → P row) → All P rows
all_of P rows holds k d within = holds _

-- another channel is found as before, where one is gone
pub found_without : (session sid : ℕ) (channels : List Channel) (number of : ℕ) → (eqb number session && eqb of sid) ≡ false
    → find (is_channel number of) (filter (is_not_channel session sid) channels) ≡ find (is_channel number of) channels
found_without session sid channels number of differ =
    found_left (is_channel number of) (is_not_channel session sid) channels (all_of (λ (row : Channel). is_not_channel session sid row ≡ false → is_channel number of row ≡ false) channels other)
  where
    other : (row : Channel) → is_not_channel session sid row ≡ false → is_channel number of row ≡ false
    other row gone =
        elim (is_channel number of row) as (λ t. is_channel number of row ≡ t → t ≡ false) [
          | true ↦ λ is.
              let here = and_parts (eqb row.session session) (eqb row.sid sid) (not_not (is_channel session sid row) gone) in
              let there = and_parts (eqb row.session number) (eqb row.sid of) is in
              let sessions : number ≡ session = sym (eqb-true row.session number there.0) ∙ eqb-true row.session session here.0 in
              let sids : of ≡ sid = sym (eqb-true row.sid of there.1) ∙ eqb-true row.sid sid here.1 in
              absurd (true≢false (sym (and_from (eqb number session) (eqb of sid) (eq-eqb number session sessions) (eq-eqb of sid sids)) ∙ differ))
          | false ↦ λ is. refl
        ] refl

module _ (w : Gateway) (settled : IsSettled w) (order : AreNumbersApart w) (links_apart : HasLinksApart w) (session sid : ℕ) (c : Channel)
    (on : channel_of w session sid ≡ Some c) (connections : List Connection) (room : HasNoMoreRoom w.connections connections) where
  abbrev fewer : Gateway
  fewer = record (without_channel session sid w) { connections = connections }

  -- ---- the channel is the only one that goes

  one_channel : All (λ (row : Channel). is_not_channel session sid row ≡ false → row ≡ c) w.clients.channels
  one_channel =
      All-weaker (λ (row : Channel). is_channel c.session c.sid row ≡ true → row ≡ c) (λ (row : Channel). is_not_channel session sid row ≡ false → row ≡ c)
      (λ row one gone.
      let here = and_parts (eqb row.session session) (eqb row.sid sid) (not_not (is_channel session sid row) gone) in
      let there = and_parts (eqb c.session session) (eqb c.sid sid) (found_passes (is_channel session sid) w.clients.channels c on) in
      one
      (and_from (eqb row.session c.session) (eqb row.sid c.sid) (eq-eqb row.session c.session (eqb-true row.session session here.0 ∙ sym (eqb-true c.session session there.0)))
      (eq-eqb row.sid c.sid (eqb-true row.sid sid here.1 ∙ sym (eqb-true c.sid sid there.1)))))
      w.clients.channels (one_of_sid (is_channel session sid) w.clients.channels c order.channels.apart on)

  found_same : (number of : ℕ) → (eqb number session && eqb of sid) ≡ false → channel_of fewer number of ≡ channel_of w number of
  found_same number of differ = found_without session sid w.clients.channels number of differ

  sub_found : (sub : ClientSub) → is_not_sub_on session sid sub ≡ true → channel_of fewer sub.session sub.sid ≡ channel_of w sub.session sub.sid
  sub_found sub stays = found_same sub.session sub.sid (not_so (eqb sub.session session && eqb sub.sid sid) stays)

  read_found : (read : WaitingRead) → is_not_read_on session sid read ≡ true → channel_of fewer read.session read.sid ≡ channel_of w read.session read.sid
  read_found read stays = found_same read.session read.sid (not_so (eqb read.session session && eqb read.sid sid) stays)

  -- ---- what others are owed

  channels_quiet : channel_notices fewer ≡ []
  channels_quiet =
      none_planned (channel_notice w) (filter (is_not_channel session sid) w.clients.channels)
      (All-filter (is_not_channel session sid) (λ (row : Channel). channel_notice w row ≡ None) w.clients.channels (none_told (channel_notice w) w.clients.channels settled.channels))

  not_withheld : withheld fewer ≡ []
  not_withheld =
      none_of_left (is_withheld fewer) (is_withheld w) (is_not_sub_on session sid)
      (λ sub stays. ap (λ (found : Option Channel). not sub.owed && is_unreadable w found) (sub_found sub stays)) w.clients.subs settled.held_back

  -- its subscriptions read no other variable
  subs_elsewhere : (other : List ℕ) → bytes_eq other c.real ≡ false → (sub : ClientSub) → is_not_sub_on session sid sub ≡ false → is_subscriber w other sub ≡ false
  subs_elsewhere other differ sub gone =
      let here = and_parts (eqb sub.session session) (eqb sub.sid sid) (not_not (eqb sub.session session && eqb sub.sid sid) gone) in
      let sessions = eqb-true sub.session session here.0 in
      let sids = eqb-true sub.sid sid here.1 in
      ap (is_read_through w other) ((λ i. channel_of w (sessions i) (sids i)) ∙ on)
      ∙ ap (λ (t : Bool). t && may_read (rights_of w c)) (other_name other c.real differ)

  channels_elsewhere : (other : List ℕ) → bytes_eq other c.real ≡ false → All (λ (row : Channel). is_not_channel session sid row ≡ false → is_on other row ≡ false) w.clients.channels
  channels_elsewhere other differ =
      All-weaker (λ (row : Channel). is_not_channel session sid row ≡ false → row ≡ c) (λ (row : Channel). is_not_channel session sid row ≡ false → is_on other row ≡ false)
      (λ row one gone. ap (is_on other) (one gone) ∙ other_name other c.real differ) w.clients.channels one_channel

  beside : IsBesideOthers w fewer (is_name c.real)
  beside = record {
    links = refl;
    minors = λ server. refl;
    asks = λ other differ.
        let subs = passing_of_left (is_subscriber fewer other) (is_subscriber w other) (is_not_sub_on session sid)
        (λ sub stays. ap (is_read_through w other) (sub_found sub stays)) (subs_elsewhere other differ) w.clients.subs in
        let readers = passing_left (is_reader w other) (is_not_channel session sid) w.clients.channels
        (All-weaker (λ (row : Channel). is_not_channel session sid row ≡ false → is_on other row ≡ false)
        (λ (row : Channel). is_not_channel session sid row ≡ false → is_reader w other row ≡ false)
        (λ row fails gone. rw (fails gone) refl) w.clients.channels (channels_elsewhere other differ)) in
        λ i. map own_ask (subs i) ++ map reader_ask (readers i);
    wanted = λ other differ.
        ap (λ (t : Bool). t || list_any (leads_to w.policy other) w.searches) (any_left (is_on other) (is_not_channel session sid) w.clients.channels (channels_elsewhere other differ));
  }

  -- ---- what the notices on its link leave

  abbrev notices : List LinkNotice
  notices = link_notices_over fewer (link_of fewer c.real)

  abbrev after : Gateway
  after = link_told_on c.real fewer

  spares : SparesWanted fewer notices
  spares = one_spares fewer order.links.apart c.real

  clients_same : after.clients ≡ fewer.clients
  clients_same = link_told_clients fewer c.real

  -- the channels that are left are wanted
  wanted_there : (number of : ℕ) (row : Channel) → channel_of fewer number of ≡ Some row → is_wanted fewer row.real ≡ true
  wanted_there number of row is =
      ap (λ (t : Bool). t || list_any (leads_to w.policy row.real) w.searches) (found_is_on (is_channel number of) (filter (is_not_channel session sid) w.clients.channels) row is)

  read_left : (read : WaitingRead) → is_not_read_on session sid read ≡ true → read_notice w read ≡ None → read_notice after read ≡ None
  read_left read stays none =
      ap (λ (rows : ClientRows). notice_on after read (find (is_channel read.session read.sid) rows.channels)) clients_same
      ∙ by (channel_of fewer read.session read.sid) refl (ap (notice_on w read) (read_found read stays) ∙ none)
    where
      by : (found : Option Channel) → channel_of fewer read.session read.sid ≡ found → notice_on w read found ≡ None → notice_on after read found ≡ None
      by None is none = refl
      by (Some row) is none =
          let there = wanted_there read.session read.sid row is in
          read_on-stays fewer after (values_no_more notices fewer) row
          (wanted_rights_kept fewer notices spares row there) (wanted_link_kept fewer notices spares row.real there) read none

  reads_quiet : read_notices after ≡ []
  reads_quiet =
      ap (λ (rows : ClientRows). filter_map (read_notice after) rows.reads) clients_same
      ∙ none_planned (read_notice after) (filter (is_not_read_on session sid) w.clients.reads)
      (left_have (λ (read : WaitingRead). read_notice w read ≡ None) (λ (read : WaitingRead). read_notice after read ≡ None) (is_not_read_on session sid)
      read_left w.clients.reads (none_told (read_notice w) w.clients.reads settled.reads))

  -- a subscription that is left, as the channel went
  update_between : (sub : ClientSub) → is_not_sub_on session sid sub ≡ true → update_notice w sub ≡ None → update_notice fewer sub ≡ None
  update_between sub stays none =
      update_if_open w fewer sub ((less_connections w connections room).sessions sub.session) (λ unsaid. ap (update_on w sub) (sub_found sub stays) ∙ unsaid) none

  update_left : (sub : ClientSub) → is_not_sub_on session sid sub ≡ true → update_notice w sub ≡ None → update_notice after sub ≡ None
  update_left sub stays none =
      update_if_open fewer after sub (open_no_more notices fewer sub.session)
      (λ unsaid. ap (λ (rows : ClientRows). update_on after sub (find (is_channel sub.session sub.sid) rows.channels)) clients_same
      ∙ by (channel_of fewer sub.session sub.sid) refl unsaid)
      (update_between sub stays none)
    where
      by : (found : Option Channel) → channel_of fewer sub.session sub.sid ≡ found → update_on fewer sub found ≡ None → update_on after sub found ≡ None
      by None is none = refl
      by (Some row) is none =
          let there = wanted_there sub.session sub.sid row is in
          update_on-stays fewer after (values_no_more notices fewer) row
          (wanted_rights_kept fewer notices spares row there) (wanted_link_kept fewer notices spares row.real there) sub none

  updates_quiet : update_notices after ≡ []
  updates_quiet =
      ap (λ (rows : ClientRows). filter_map (update_notice after) rows.subs) clients_same
      ∙ none_planned (update_notice after) (filter (is_not_sub_on session sid) w.clients.subs)
      (left_have (λ (sub : ClientSub). update_notice w sub ≡ None) (λ (sub : ClientSub). update_notice after sub ≡ None) (is_not_sub_on session sid)
      update_left w.clients.subs (none_told (update_notice w) w.clients.subs settled.updates))

  told_after : consequences fewer ≡ link_told_on c.real fewer
  told_after =
      from_links fewer channels_quiet not_withheld
      ∙ ap (λ (v : Gateway). updates_told (reads_told v)) (links_alone w fewer c.real beside settled links_apart)
      ∙ ap updates_told (reads_stay after reads_quiet)
      ∙ updates_stay after updates_quiet

pub told_after_clearing : (w : Gateway) → IsSettled w → AreNumbersApart w → HasLinksApart w → (session sid : ℕ) (c : Channel) → channel_of w session sid ≡ Some c → (dest : Dest) (said : Out)
    → consequences (sent dest said (without_channel session sid w)) ≡ link_told_on c.real (sent dest said (without_channel session sid w))
unfolding sent
told_after_clearing w settled order links_apart session sid c on dest said =
    told_after w settled order links_apart session sid c on (change_first (is_to dest) (given (most_for w.limits dest) said) w.connections) (no_more_room_given (most_for w.limits dest) dest said w.connections)
