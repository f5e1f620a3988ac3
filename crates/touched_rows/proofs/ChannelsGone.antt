-- What is left of the rows of a settled state, as the channels on some variables go.
use Rattle.std.proofs.Common.{◌≡◌, ℕ, List, [], ◌∷◌, Bool, true, false, eqb, ◌&&◌, Option, Some, None, refl, sym, ap, ◌∙◌}
use Rattle.std.specs.Prelude.{filter, map}
use Rattle.std.specs.List.{All, fold, list_any}
use Rattle.std.proofs.lemmas.Bool.{and_parts, eqb-true, true≢false}
use Rattle.std.proofs.lemmas.List.Elements.{All-filter, All-head, All-tail, All-weaker}
use Rattle.std.proofs.lemmas.Slice.Eq.{bytes_eq-Decides}
use Rattle.rows.specs.Rows.{change_first}
use Rattle.ca_message.specs.declared.to_client.ToClient.TheVariants as replies
use Rattle.named_rows.specs.declared.channels.Channel.{Channel}
use Rattle.named_rows.specs.declared.reads.WaitingRead.{WaitingRead}
use Rattle.named_rows.specs.declared.subs.ClientSub.{ClientSub}
use Rattle.named_rows.specs.Channels.{is_channel, is_not_channel, is_on}
use Rattle.named_rows.specs.Reads.{is_not_read_on}
use Rattle.named_rows.specs.Subs.{is_not_sub_on}
use Rattle.fanout.specs.declared.outbox.Out.{Out}
use Rattle.gateway_state.specs.declared.connections.Connection.{Connection}
use Rattle.gateway_state.specs.declared.event.Dest.TheVariants.{Session as ToSession}
use Rattle.gateway_state.specs.Clients.{without_channel}
use Rattle.gateway_state.specs.Connections.{given, is_to}
use Rattle.gateway_state.specs.Gateway.{Gateway}
use Rattle.gateway_state.specs.Interest.{is_read_through, is_reader, is_subscriber}
use Rattle.gateway_state.specs.Notices.{channel_told, read_notice}
use Rattle.gateway_state.specs.Rights.{channel_of, may_read, rights_of}
use Rattle.gateway_state.specs.Telling.{outgoing, sent}
use Rattle.gateway_state.specs.Variables.{is_among}
use Rattle.touched_rows.specs.Touched.{disconnected, is_channel_among}
use Rattle.touched_rows.proofs.Beside.{IsQuiet}
use Rattle.touched_rows.proofs.Cleared.{found_without, not_so}
use Rattle.touched_rows.proofs.Connections.{HasNoMoreRoom, no_more_room_given}
use Rattle.touched_rows.proofs.ReadersOf.{any_left, not_not, passing_left, passing_of_left}
use Rattle.touched_rows.proofs.TouchedAlone.{found_holds, found_passes}

-- the channel that is found is on one of these variables
abbrev pub is_found_among : List (List ℕ) → Option Channel → Bool
is_found_among names None = false
is_found_among names (Some c) = is_channel_among names c

-- what channels of w would make of their readers, found in v
abbrev pub reads_through : Gateway → Gateway → List ℕ → ClientSub → Bool
reads_through w v other sub = is_read_through w other (channel_of v sub.session sub.sid)

-- the rows of v are left of those of w, without some that are on these variables
pub record IsLeftOf (w : Gateway) (names : List (List ℕ)) (v : Gateway) : Type 0 where
  pub channels : All (λ (c : Channel). channel_of w c.session c.sid ≡ Some c) v.clients.channels
  pub subs : All (IsQuiet w) v.clients.subs
  pub reads : All (λ (read : WaitingRead). read_notice w read ≡ None) v.clients.reads
  pub room : HasNoMoreRoom w.connections v.connections
  pub wanted : (other : List ℕ) → is_among names other ≡ false → list_any (is_on other) v.clients.channels ≡ list_any (is_on other) w.clients.channels
  pub readers : (other : List ℕ) → is_among names other ≡ false → filter (is_reader w other) v.clients.channels ≡ filter (is_reader w other) w.clients.channels
  pub subscribers : (other : List ℕ) → is_among names other ≡ false → filter (reads_through w v other) v.clients.subs ≡ filter (is_subscriber w other) w.clients.subs

-- a channel on one of these is on no other variable
not_on_other : (names : List (List ℕ)) (other : List ℕ) → is_among names other ≡ false → (c : Channel) → is_channel_among names c ≡ true → is_on other c ≡ false
not_on_other names other none c among =
    elim (is_on other c) as (λ t. is_on other c ≡ t → t ≡ false) [
      | true ↦ λ is. absurd (true≢false (sym among ∙ ap (is_among names) ((bytes_eq-Decides c.real other).0 is) ∙ none))
      | false ↦ λ is. refl
    ] refl

-- ---- as one of them goes

module _ (w v : Gateway) (names : List (List ℕ)) (left : IsLeftOf w names v) (session sid : ℕ)
    (on : is_found_among names (channel_of w session sid) ≡ true) (connections : List Connection) (room : HasNoMoreRoom v.connections connections) where
  all_among : All (λ (row : Channel). is_channel session sid row ≡ true → is_channel_among names row ≡ true) v.clients.channels
  all_among =
      All-weaker (λ (row : Channel). channel_of w row.session row.sid ≡ Some row) (λ (row : Channel). is_channel session sid row ≡ true → is_channel_among names row ≡ true)
      (λ row there is.
      let key = and_parts (eqb row.session session) (eqb row.sid sid) is in
      let sessions : row.session ≡ session = eqb-true row.session session key.0 in
      let sids : row.sid ≡ sid = eqb-true row.sid sid key.1 in
      let found : channel_of w session sid ≡ Some row = sym (λ i. channel_of w (sessions i) (sids i)) ∙ there in
      sym (ap (is_found_among names) found) ∙ on)
      v.clients.channels left.channels

  none_on : (other : List ℕ) → is_among names other ≡ false → All (λ (row : Channel). is_not_channel session sid row ≡ false → is_on other row ≡ false) v.clients.channels
  none_on other none =
      All-weaker (λ (row : Channel). is_channel session sid row ≡ true → is_channel_among names row ≡ true) (λ (row : Channel). is_not_channel session sid row ≡ false → is_on other row ≡ false)
      (λ row here gone. not_on_other names other none row (here (not_not (is_channel session sid row) gone))) v.clients.channels all_among

  no_subscriber : (other : List ℕ) → is_among names other ≡ false → (sub : ClientSub) → is_not_sub_on session sid sub ≡ false → reads_through w v other sub ≡ false
  no_subscriber other none sub gone =
      let key = and_parts (eqb sub.session session) (eqb sub.sid sid) (not_not (eqb sub.session session && eqb sub.sid sid) gone) in
      let sessions = eqb-true sub.session session key.0 in
      let sids = eqb-true sub.sid sid key.1 in
      (λ i. is_read_through w other (channel_of v (sessions i) (sids i))) ∙ by (channel_of v session sid) refl
    where
      by : (found : Option Channel) → channel_of v session sid ≡ found → is_read_through w other found ≡ false
      by None is = refl
      by (Some c) is =
          let among : is_channel_among names c ≡ true =
          found_holds (λ (row : Channel). is_channel session sid row ≡ true → is_channel_among names row ≡ true) (is_channel session sid) v.clients.channels c all_among is
          (found_passes (is_channel session sid) v.clients.channels c is) in
          ap (λ (t : Bool). t && may_read (rights_of w c)) (not_on_other names other none c among)

  abbrev fewer : Gateway
  fewer = record (without_channel session sid v) { connections = connections }

  pub left_without : IsLeftOf w names fewer
  left_without = record {
    channels = All-filter (is_not_channel session sid) (λ (c : Channel). channel_of w c.session c.sid ≡ Some c) v.clients.channels left.channels;
    subs = All-filter (is_not_sub_on session sid) (IsQuiet w) v.clients.subs left.subs;
    reads = All-filter (is_not_read_on session sid) (λ (read : WaitingRead). read_notice w read ≡ None) v.clients.reads left.reads;
    room = λ limits number taking. left.room limits number (room limits number taking);
    wanted = λ other none. any_left (is_on other) (is_not_channel session sid) v.clients.channels (none_on other none) ∙ left.wanted other none;
    readers = λ other none.
        passing_left (is_reader w other) (is_not_channel session sid) v.clients.channels
        (All-weaker (λ (row : Channel). is_not_channel session sid row ≡ false → is_on other row ≡ false)
        (λ (row : Channel). is_not_channel session sid row ≡ false → is_reader w other row ≡ false)
        (λ row fails gone. rw (fails gone) refl) v.clients.channels (none_on other none))
        ∙ left.readers other none;
    subscribers = λ other none.
        passing_of_left (reads_through w fewer other) (reads_through w v other) (is_not_sub_on session sid)
        (λ sub stays.
        ap (is_read_through w other) (found_without session sid v.clients.channels sub.session sub.sid (not_so (eqb sub.session session && eqb sub.sid sid) stays)))
        (no_subscriber other none) v.clients.subs
        ∙ left.subscribers other none;
  }

-- ---- as all of them go

left_one : (w v : Gateway) (names : List (List ℕ)) (c : Channel) → is_found_among names (channel_of w c.session c.sid) ≡ true → IsLeftOf w names v → IsLeftOf w names (channel_told v (disconnected c))
unfolding sent
left_one w v names c on left =
    let said : Out = outgoing (replies.ServerDisconnect c.cid) in
    left_without w v names left c.session c.sid on (change_first (is_to (ToSession c.session)) (given v.limits.messages said) v.connections) (no_more_room_given v.limits.messages (ToSession c.session) said v.connections)

pub left_told : (w : Gateway) (names : List (List ℕ)) (rows : List Channel) (v : Gateway) → All (λ (c : Channel). is_found_among names (channel_of w c.session c.sid) ≡ true) rows → IsLeftOf w names v
    → IsLeftOf w names (fold channel_told v (map disconnected rows))
left_told w names [] v on left = left
left_told w names (c ∷ rows) v on left =
    left_told w names rows (channel_told v (disconnected c)) (All-tail (λ (row : Channel). is_found_among names (channel_of w row.session row.sid) ≡ true) c rows on)
    (left_one w v names c (All-head (λ (row : Channel). is_found_among names (channel_of w row.session row.sid) ≡ true) c rows on) left)
