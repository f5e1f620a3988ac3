-- A state that differs from a settled one on one variable alone: what isn't owed on others in the one isn't
-- owed in the other.
use Rattle.std.proofs.Common.{◌≡◌, ℕ, List, [], ◌∷◌, ◌++◌, Bool, true, false, cond, eqb, not, ◌&&◌, ◌||◌, Option, Some, None, refl, sym, ap, subst, ◌∙◌}
use Rattle.std.specs.Prelude.{bytes_eq, filter, map, get_or}
use Rattle.std.specs.List.{All, find, fold, list_all, list_any}
use Rattle.std.specs.Option.{option_map}
use Rattle.std.proofs.lemmas.Bool.{and_parts, eqb-true, true≢false}
use Rattle.std.proofs.lemmas.List.Elements.{All-filter, All-map, All-weaker}
use Rattle.std.proofs.lemmas.Slice.Eq.{bytes_eq-Decides}
use Rattle.rows.specs.Rows.{change_first}
use Rattle.ca_message.specs.declared.to_client.ToClient.TheVariants as replies
use Rattle.named_rows.specs.declared.channels.Reach.{Reach}
use Rattle.named_rows.specs.declared.channels.Channel.{Channel}
use Rattle.named_rows.specs.declared.reads.WaitingRead.{WaitingRead}
use Rattle.named_rows.specs.declared.subs.ClientSub.{ClientSub}
use Rattle.named_rows.specs.Channels.{is_channel, is_not_channel, with_reach_and_rights, is_channel_on, is_on}
use Rattle.named_rows.specs.Reads.{is_not_read_on}
use Rattle.named_rows.specs.Subs.{is_not_sub_on, with_owed}
use Rattle.named_rows.specs.Demand.{own_ask}
use Rattle.fanout.specs.declared.outbox.Out.{Out}
use Rattle.link_table.specs.declared.links.LinkRow.{LinkRow}
use Rattle.link_table.specs.declared.servers.Server.{Server}
use Rattle.link_table.specs.Links.{is_named}
use Rattle.link_table.specs.Servers.{is_server}
use Rattle.gateway_state.specs.declared.connections.Connection.{Connection}
use Rattle.gateway_state.specs.declared.event.Dest.TheVariants.{Session as ToSession}
use Rattle.gateway_state.specs.declared.notice.ChannelNotice.{ChannelNotice}
use Rattle.gateway_state.specs.declared.notice.ChannelNotice.TheVariants.{Disconnected, RightsChanged}
use Rattle.gateway_state.specs.Answer.{cached_value}
use Rattle.gateway_state.specs.Clients.{without_channel}
use Rattle.gateway_state.specs.Connections.{given, is_to}
use Rattle.gateway_state.specs.Gateway.{Gateway}
use Rattle.gateway_state.specs.Interest.{is_read_through, is_reader, is_subscriber, minor_in, reader_ask, readers}
use Rattle.gateway_state.specs.Notices.{channel_told, link_notices_of, loses_reading, notice_on, read_notice, reading_ended, with_reach}
use Rattle.gateway_state.specs.Rights.{channel_of, may_read, rights_of}
use Rattle.gateway_state.specs.Searches.{leads_to}
use Rattle.gateway_state.specs.Servers.{waits_for}
use Rattle.gateway_state.specs.Telling.{outgoing, sent, told}
use Rattle.gateway_state.specs.Updates.{is_sub_to, is_unreadable, is_withheld, update_notice, update_on}
use Rattle.gateway_state.specs.Variables.{is_wanted, link_of}
use Rattle.gateway_state.proofs.RowTests.{any_changed}
use Rattle.gateway_state.proofs.SettledWithheld.{with_subs}
use Rattle.touched_rows.proofs.Blanked.{found_blanked, passing_changed}
use Rattle.touched_rows.proofs.Cleared.{found_without, left_have, not_so}
use Rattle.gateway_state.proofs.ReadingEnded.{reading_ended_shape}
use Rattle.touched_rows.proofs.Connections.{HasNoMoreRoom, no_more_room_ended, no_more_room_given, no_more_room_then}
use Rattle.touched_rows.proofs.LessGiven.{bare, is_given_to, plain, read_on-stays, update_if_open, update_on-stays}
use Rattle.touched_rows.proofs.OneLink.{link_alike}
use Rattle.touched_rows.specs.Touched.{owed_where}
use Rattle.touched_rows.proofs.Owing.{asks_alike}
use Rattle.touched_rows.proofs.ReadersOf.{any_left, not_not, other_name, passing_left, passing_of_left}
use Rattle.touched_rows.proofs.Tellings.{less_connections}
use Rattle.touched_rows.proofs.TouchedAlone.{all_with_changed, found_holds, found_passes}

-- nothing is kept for a subscription from now on, and no update is due to it
pub record IsQuiet (w : Gateway) (sub : ClientSub) : Type 0 where
  pub kept : is_withheld w sub ≡ false
  pub due : update_notice w sub ≡ None

-- y has these links, and is as w but for what is on the variable
pub record IsBeside (w y : Gateway) (links : List LinkRow) (name : List ℕ) : Type 0 where
  pub upstream : y.upstream.links ≡ links
  pub policy : y.policy ≡ w.policy
  pub searches : y.searches ≡ w.searches
  pub servers : y.upstream.servers ≡ w.upstream.servers
  pub channels : All (λ (c : Channel). is_on name c ≡ false → channel_of w c.session c.sid ≡ Some c) y.clients.channels
  pub rights : (c : Channel) → is_on name c ≡ false → rights_of y c ≡ rights_of w c
  pub over : (c : Channel) → is_on name c ≡ false → option_map bare (link_of y c.real) ≡ option_map bare (link_of w c.real)
  pub values : (cid native dtype count : ℕ) → cached_value w cid native dtype count ≡ None → cached_value y cid native dtype count ≡ None
  pub sessions : (number : ℕ) → is_given_to y number ≡ true → is_given_to w number ≡ true
  pub subs : All (λ (sub : ClientSub). is_sub_to y name sub ≡ false → IsQuiet w sub) y.clients.subs
  pub reads : All (λ (read : WaitingRead). waits_for y name read ≡ false → read_notice w read ≡ None) y.clients.reads
  pub names : (other : List ℕ) → bytes_eq other name ≡ false → list_any (is_on other) y.clients.channels ≡ list_any (is_on other) w.clients.channels
  pub readers : (other : List ℕ) → bytes_eq other name ≡ false → filter (is_reader y other) y.clients.channels ≡ filter (is_reader w other) w.clients.channels
  pub asks : (other : List ℕ) → bytes_eq other name ≡ false
      → map own_ask (filter (is_subscriber y other) y.clients.subs) ≡ map own_ask (filter (is_subscriber w other) w.clients.subs)

-- a channel on the variable is on no other
pub not_on : (name other : List ℕ) → bytes_eq other name ≡ false → (c : Channel) → is_on name c ≡ true → is_on other c ≡ false
not_on name other differ c on =
    ap (λ (real : List ℕ). bytes_eq real other) ((bytes_eq-Decides c.real name).0 on) ∙ other_name other name differ

-- ---- what isn't owed on other variables

module _ (w y : Gateway) (links : List LinkRow) (name : List ℕ) (beside : IsBeside w y links name) where
  found_there : (session sid : ℕ) (c : Channel) → channel_of y session sid ≡ Some c → is_on name c ≡ false → channel_of w session sid ≡ Some c
  found_there session sid c is off =
      let key = and_parts (eqb c.session session) (eqb c.sid sid) (found_passes (is_channel session sid) y.clients.channels c is) in
      let sessions : c.session ≡ session = eqb-true c.session session key.0 in
      let sids : c.sid ≡ sid = eqb-true c.sid sid key.1 in
      sym (λ i. channel_of w (sessions i) (sids i))
      ∙ found_holds (λ (row : Channel). is_on name row ≡ false → channel_of w row.session row.sid ≡ Some row) (is_channel session sid) y.clients.channels c beside.channels is off

  pub withheld_beside : All (λ (sub : ClientSub). is_sub_to y name sub ≡ false → is_withheld y sub ≡ false) y.clients.subs
  withheld_beside =
      All-weaker (λ (sub : ClientSub). is_sub_to y name sub ≡ false → IsQuiet w sub) (λ (sub : ClientSub). is_sub_to y name sub ≡ false → is_withheld y sub ≡ false)
      (λ sub quiet off. by sub (channel_of y sub.session sub.sid) refl off (quiet off).kept) y.clients.subs beside.subs
    where
      by : (sub : ClientSub) (found : Option Channel) → channel_of y sub.session sub.sid ≡ found → is_channel_on name found ≡ false → is_withheld w sub ≡ false
          → (not sub.owed && is_unreadable y found) ≡ false
      by sub None is off none = elim sub.owed as (λ t. (not t && false) ≡ false) [ true ↦ refl | false ↦ refl ]
      by sub (Some c) is off none =
          ap (λ (rights : ℕ). not sub.owed && not (may_read rights)) (beside.rights c off)
          ∙ sym (ap (λ (found : Option Channel). not sub.owed && is_unreadable w found) (found_there sub.session sub.sid c is off)) ∙ none

  pub reads_beside : All (λ (read : WaitingRead). waits_for y name read ≡ false → read_notice y read ≡ None) y.clients.reads
  reads_beside =
      All-weaker (λ (read : WaitingRead). waits_for y name read ≡ false → read_notice w read ≡ None) (λ (read : WaitingRead). waits_for y name read ≡ false → read_notice y read ≡ None)
      (λ read quiet off. by read (channel_of y read.session read.sid) refl off (quiet off)) y.clients.reads beside.reads
    where
      by : (read : WaitingRead) (found : Option Channel) → channel_of y read.session read.sid ≡ found → is_channel_on name found ≡ false → read_notice w read ≡ None → notice_on y read found ≡ None
      by read None is off none = refl
      by read (Some c) is off none =
          read_on-stays w y beside.values c (beside.rights c off) (beside.over c off) read
          (sym (ap (notice_on w read) (found_there read.session read.sid c is off)) ∙ none)

  pub updates_beside : All (λ (sub : ClientSub). is_sub_to y name sub ≡ false → update_notice y sub ≡ None) y.clients.subs
  updates_beside =
      All-weaker (λ (sub : ClientSub). is_sub_to y name sub ≡ false → IsQuiet w sub) (λ (sub : ClientSub). is_sub_to y name sub ≡ false → update_notice y sub ≡ None)
      (λ sub quiet off. update_if_open w y sub (beside.sessions sub.session) (by sub (channel_of y sub.session sub.sid) refl off) (quiet off).due) y.clients.subs beside.subs
    where
      by : (sub : ClientSub) (found : Option Channel) → channel_of y sub.session sub.sid ≡ found → is_channel_on name found ≡ false
          → update_on w sub (channel_of w sub.session sub.sid) ≡ None → update_on y sub found ≡ None
      by sub None is off none = refl
      by sub (Some c) is off none =
          update_on-stays w y beside.values c (beside.rights c off) (beside.over c off) sub
          (sym (ap (update_on w sub) (found_there sub.session sub.sid c is off)) ∙ none)

  asks_beside : (other : List ℕ) → bytes_eq other name ≡ false → readers y other ≡ readers w other
  asks_beside other differ =
      let subs = beside.asks other differ in
      let channels = beside.readers other differ in
      λ i. subs i ++ map reader_ask (channels i)

  wanted_beside : (other : List ℕ) → bytes_eq other name ≡ false → is_wanted y other ≡ is_wanted w other
  wanted_beside other differ =
      let names = beside.names other differ in
      let policy = beside.policy in
      let searches = beside.searches in
      λ i. names i || list_any (leads_to (policy i) other) (searches i)

  pub links_beside : All (λ (link : LinkRow). is_named name link ≡ false → link_notices_of w link ≡ []) links
      → All (λ (link : LinkRow). is_named name link ≡ false → link_notices_of y link ≡ []) y.upstream.links
  links_beside quiet =
      subst (All (λ (link : LinkRow). is_named name link ≡ false → link_notices_of y link ≡ [])) (sym beside.upstream)
      (All-weaker (λ (link : LinkRow). is_named name link ≡ false → link_notices_of w link ≡ []) (λ (link : LinkRow). is_named name link ≡ false → link_notices_of y link ≡ [])
      (λ link none off.
      link_alike w y link (asks_beside link.name off) (λ server. ap (λ (rows : List Server). minor_in (find (is_server server) rows)) beside.servers)
      (wanted_beside link.name off)
      ∙ none off) links quiet)

-- ---- once a channel on the variable is told

module _ (w y : Gateway) (links : List LinkRow) (name : List ℕ) (beside : IsBeside w y links name) (session sid : ℕ)
    (on : is_channel_on name (channel_of w session sid) ≡ true) (connections : List Connection) (room : HasNoMoreRoom y.connections connections) where
  all_on : All (λ (row : Channel). is_channel session sid row ≡ true → is_on name row ≡ true) y.clients.channels
  all_on =
      All-weaker (λ (row : Channel). is_on name row ≡ false → channel_of w row.session row.sid ≡ Some row) (λ (row : Channel). is_channel session sid row ≡ true → is_on name row ≡ true)
      (λ row there is. elim (is_on name row) as (λ t. is_on name row ≡ t → t ≡ true) [
        | true ↦ λ e. refl
        | false ↦ λ e.
            let key = and_parts (eqb row.session session) (eqb row.sid sid) is in
            let sessions : row.session ≡ session = eqb-true row.session session key.0 in
            let sids : row.sid ≡ sid = eqb-true row.sid sid key.1 in
            let found : channel_of w session sid ≡ Some row = sym (λ i. channel_of w (sessions i) (sids i)) ∙ there e in
            absurd (true≢false (sym on ∙ ap (is_channel_on name) found ∙ e))
      ] refl)
      y.clients.channels beside.channels

  found_on : (c : Channel) → channel_of y session sid ≡ Some c → is_on name c ≡ true
  found_on c is =
      found_holds (λ (row : Channel). is_channel session sid row ≡ true → is_on name row ≡ true) (is_channel session sid) y.clients.channels c all_on is
      (found_passes (is_channel session sid) y.clients.channels c is)

  none_on : (other : List ℕ) → bytes_eq other name ≡ false → All (λ (row : Channel). is_not_channel session sid row ≡ false → is_on other row ≡ false) y.clients.channels
  none_on other differ =
      All-weaker (λ (row : Channel). is_channel session sid row ≡ true → is_on name row ≡ true) (λ (row : Channel). is_not_channel session sid row ≡ false → is_on other row ≡ false)
      (λ row here gone. not_on name other differ row (here (not_not (is_channel session sid row) gone))) y.clients.channels all_on

  open_before : (number : ℕ) → is_given_to (record y { connections = connections }) number ≡ true → is_given_to w number ≡ true
  open_before number open_to = beside.sessions number ((less_connections y connections room).sessions number open_to)

  -- that it is gone
  abbrev fewer : Gateway
  fewer = record (without_channel session sid y) { connections = connections }

  no_subscriber : (other : List ℕ) → bytes_eq other name ≡ false → (sub : ClientSub) → is_not_sub_on session sid sub ≡ false → is_subscriber y other sub ≡ false
  no_subscriber other differ sub gone =
      let key = and_parts (eqb sub.session session) (eqb sub.sid sid) (not_not (eqb sub.session session && eqb sub.sid sid) gone) in
      let sessions = eqb-true sub.session session key.0 in
      let sids = eqb-true sub.sid sid key.1 in
      (λ i. is_read_through y other (channel_of y (sessions i) (sids i))) ∙ by (channel_of y session sid) refl
    where
      by : (found : Option Channel) → channel_of y session sid ≡ found → is_read_through y other found ≡ false
      by None is = refl
      by (Some c) is = ap (λ (t : Bool). t && may_read (rights_of y c)) (not_on name other differ c (found_on c is))

  pub beside_gone : IsBeside w fewer links name
  beside_gone = record {
    upstream = beside.upstream;
    policy = beside.policy;
    searches = beside.searches;
    servers = beside.servers;
    channels =
        All-filter (is_not_channel session sid) (λ (c : Channel). is_on name c ≡ false → channel_of w c.session c.sid ≡ Some c) y.clients.channels beside.channels;
    rights = beside.rights;
    over = beside.over;
    values = beside.values;
    sessions = open_before;
    subs =
        left_have (λ (sub : ClientSub). is_sub_to y name sub ≡ false → IsQuiet w sub) (λ (sub : ClientSub). is_sub_to fewer name sub ≡ false → IsQuiet w sub) (is_not_sub_on session sid)
        (λ sub stays quiet off. quiet (sym (ap (is_channel_on name) (found_without session sid y.clients.channels sub.session sub.sid (not_so (eqb sub.session session && eqb sub.sid sid) stays))) ∙ off))
        y.clients.subs beside.subs;
    reads =
        left_have (λ (read : WaitingRead). waits_for y name read ≡ false → read_notice w read ≡ None) (λ (read : WaitingRead). waits_for fewer name read ≡ false → read_notice w read ≡ None)
        (is_not_read_on session sid)
        (λ read stays quiet off. quiet (sym (ap (is_channel_on name) (found_without session sid y.clients.channels read.session read.sid (not_so (eqb read.session session && eqb read.sid sid) stays))) ∙ off))
        y.clients.reads beside.reads;
    names = λ other differ. any_left (is_on other) (is_not_channel session sid) y.clients.channels (none_on other differ) ∙ beside.names other differ;
    readers = λ other differ.
        passing_left (is_reader y other) (is_not_channel session sid) y.clients.channels
        (All-weaker (λ (row : Channel). is_not_channel session sid row ≡ false → is_on other row ≡ false)
        (λ (row : Channel). is_not_channel session sid row ≡ false → is_reader y other row ≡ false)
        (λ row fails gone. rw (fails gone) refl) y.clients.channels (none_on other differ))
        ∙ beside.readers other differ;
    asks = λ other differ.
        ap (map own_ask)
        (passing_of_left (is_subscriber fewer other) (is_subscriber y other) (is_not_sub_on session sid)
        (λ sub stays.
        ap (is_read_through y other) (found_without session sid y.clients.channels sub.session sub.sid (not_so (eqb sub.session session && eqb sub.sid sid) stays)))
        (no_subscriber other differ) y.clients.subs)
        ∙ beside.asks other differ;
  }

  -- that it has other rights
  module _ (reach : Reach) (rights : ℕ) where
    abbrev change : Channel → Channel
    change = with_reach_and_rights reach rights

    abbrev changed : Gateway
    changed = record (with_reach session sid reach rights y) { connections = connections }

    found_plain : (of number : ℕ) → option_map plain (channel_of changed of number) ≡ option_map plain (channel_of y of number)
    found_plain of number = found_blanked plain change (λ c. refl) (is_channel session sid) (is_channel of number) (λ c. refl) y.clients.channels

    on_plain : (found : Option Channel) → is_channel_on name found ≡ is_channel_on name (option_map plain found)
    on_plain None = refl
    on_plain (Some c) = refl

    through_plain : (other : List ℕ) (found : Option Channel) → is_read_through y other found ≡ is_read_through y other (option_map plain found)
    through_plain other None = refl
    through_plain other (Some c) = refl

    on_same : (of number : ℕ) → is_channel_on name (channel_of changed of number) ≡ is_channel_on name (channel_of y of number)
    on_same of number = on_plain (channel_of changed of number) ∙ ap (is_channel_on name) (found_plain of number) ∙ sym (on_plain (channel_of y of number))

    through_same : (other : List ℕ) (of number : ℕ) → is_read_through y other (channel_of changed of number) ≡ is_read_through y other (channel_of y of number)
    through_same other of number =
        through_plain other (channel_of changed of number) ∙ ap (is_read_through y other) (found_plain of number) ∙ sym (through_plain other (channel_of y of number))

    pub beside_changed : IsBeside w changed links name
    beside_changed = record {
      upstream = beside.upstream;
      policy = beside.policy;
      searches = beside.searches;
      servers = beside.servers;
      channels =
          all_with_changed (λ (c : Channel). is_on name c ≡ false → channel_of w c.session c.sid ≡ Some c) (is_channel session sid) change y.clients.channels beside.channels
          (λ row found same off. absurd (true≢false (sym (found_on row found) ∙ off)));
      rights = beside.rights;
      over = beside.over;
      values = beside.values;
      sessions = open_before;
      subs =
          All-weaker (λ (sub : ClientSub). is_sub_to y name sub ≡ false → IsQuiet w sub) (λ (sub : ClientSub). is_sub_to changed name sub ≡ false → IsQuiet w sub)
          (λ sub quiet off. quiet (sym (on_same sub.session sub.sid) ∙ off)) y.clients.subs beside.subs;
      reads =
          All-weaker (λ (read : WaitingRead). waits_for y name read ≡ false → read_notice w read ≡ None) (λ (read : WaitingRead). waits_for changed name read ≡ false → read_notice w read ≡ None)
          (λ read quiet off. quiet (sym (on_same read.session read.sid) ∙ off)) y.clients.reads beside.reads;
      names = λ other differ. any_changed (is_on other) (is_channel session sid) change y.clients.channels (λ row. refl) ∙ beside.names other differ;
      readers = λ other differ.
          passing_changed (is_reader y other) (is_channel session sid) change y.clients.channels
          (λ row found. let fails = not_on name other differ row (found_on row found) in (rw fails refl, rw fails refl))
          ∙ beside.readers other differ;
      asks = λ other differ.
          ap (map own_ask) (λ i. filter (λ (sub : ClientSub). through_same other sub.session sub.sid i) y.clients.subs) ∙ beside.asks other differ;
    }

-- ---- once all of them are

abbrev pub is_notice_on : Gateway → List ℕ → ChannelNotice → Bool
is_notice_on w name (Disconnected session sid cid) = is_channel_on name (channel_of w session sid)
is_notice_on w name (RightsChanged session sid cid reach rights) = is_channel_on name (channel_of w session sid)

beside_one : (w y : Gateway) (links : List LinkRow) (name : List ℕ) (notice : ChannelNotice) → is_notice_on w name notice ≡ true → IsBeside w y links name → IsBeside w (channel_told y notice) links name
unfolding sent
beside_one w y links name (Disconnected session sid cid) on beside =
    let said : Out = outgoing (replies.ServerDisconnect cid) in
    beside_gone w y links name beside session sid on (change_first (is_to (ToSession session)) (given y.limits.messages said) y.connections) (no_more_room_given y.limits.messages (ToSession session) said y.connections)
beside_one w y links name (RightsChanged session sid cid reach rights) on beside =
    let said : Out = outgoing (replies.AccessRights cid rights) in
    let ends : Bool = loses_reading y rights (channel_of y session sid) in
    let told_rights : Gateway = told session (replies.AccessRights cid rights) (with_reach session sid reach rights y) in
    let last : Gateway = reading_ended session sid ends told_rights in
    subst (λ (v : Gateway). IsBeside w v links name) (sym (reading_ended_shape session sid ends told_rights))
    (beside_changed w y links name beside session sid on last.connections
    (no_more_room_then y.connections told_rights.connections last.connections (no_more_room_given y.limits.messages (ToSession session) said y.connections) (no_more_room_ended session sid ends told_rights))
    reach rights)

pub beside_told : (w : Gateway) (links : List LinkRow) (name : List ℕ) (notices : List ChannelNotice) (y : Gateway) → list_all (is_notice_on w name) notices ≡ true → IsBeside w y links name
    → IsBeside w (fold channel_told y notices) links name
beside_told w links name [] y on beside = beside
beside_told w links name (notice ∷ notices) y on beside =
    let parts = and_parts (is_notice_on w name notice) (list_all (is_notice_on w name) notices) on in
    beside_told w links name notices (channel_told y notice) parts.1 (beside_one w y links name notice parts.0 beside)

-- ---- once subscriptions are owed what is withheld from them

pub beside_owed : (w y : Gateway) (links : List LinkRow) (name : List ℕ) → IsBeside w y links name → IsBeside w (with_subs y (map (owed_where (is_withheld y)) y.clients.subs)) links name
beside_owed w y links name beside = record {
  upstream = beside.upstream;
  policy = beside.policy;
  searches = beside.searches;
  servers = beside.servers;
  channels = beside.channels;
  rights = beside.rights;
  over = beside.over;
  values = beside.values;
  sessions = beside.sessions;
  subs =
      All-map (λ (sub : ClientSub). is_sub_to y name sub ≡ false → IsQuiet w sub) (owed_where (is_withheld y)) y.clients.subs
      (λ k d within. let sub : ClientSub = get_or y.clients.subs k d in one sub (is_withheld y sub) refl (beside.subs k d within) (withheld_beside w y links name beside k d within));
  reads = beside.reads;
  names = beside.names;
  readers = beside.readers;
  asks = λ other differ. asks_alike y other (is_withheld y) y.clients.subs ∙ beside.asks other differ;
}
  where
    one : (sub : ClientSub) (held : Bool) → is_withheld y sub ≡ held → (is_sub_to y name sub ≡ false → IsQuiet w sub) → (is_sub_to y name sub ≡ false → is_withheld y sub ≡ false)
        → is_sub_to y name (cond held (with_owed true sub) sub) ≡ false → IsQuiet w (cond held (with_owed true sub) sub)
    one sub true is quiet fails off = absurd (true≢false (sym is ∙ fails off))
    one sub false is quiet fails off = quiet off
