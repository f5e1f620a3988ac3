-- A server's connection is gone: clients are told that their channels on its variables are gone, and nobody
-- else is told anything.
use Rattle.std.proofs.Common.{◌≡◌, ℕ, ◌≤◌, List, [], ◌∷◌, ◌++◌, Bool, true, false, cond, eqb, ltb, not, ◌&&◌, ◌||◌, length, Option, Some, None, refl, sym, ap, subst, ◌∙◌, arith}
use Rattle.std.specs.Prelude.{bit_and, filter, filter_map, get_or, map, option_map}
use Rattle.std.specs.List.{All, cons_option, find, fold, list_any}
use Rattle.std.proofs.lemmas.Bool.{and_parts, and_right, eqb-true, true≢false}
use Rattle.std.proofs.lemmas.List.Elements.{All-cons, All-filter, All-head, All-nil, All-tail, All-weaker}
use Rattle.std.proofs.lemmas.Slice.Eq.{bytes_eq-Decides}
use Rattle.named_rows.specs.declared.channels.Channel.{Channel}
use Rattle.named_rows.specs.declared.reads.WaitingRead.{WaitingRead}
use Rattle.named_rows.specs.declared.subs.ClientSub.{ClientSub}
use Rattle.named_rows.specs.Channels.{is_channel, is_on}
use Rattle.named_rows.specs.Demand.{own_ask}
use Rattle.link_table.specs.declared.links.LinkRow.{LinkRow}
use Rattle.link_table.specs.declared.writes.WaitingWrite.{WaitingWrite}
use Rattle.link_table.specs.Links.{is_named, is_not_of, is_of}
use Rattle.gateway_state.specs.declared.cached.LastMessage.{LastMessage}
use Rattle.gateway_state.specs.declared.connections.Connection.{Connection}
use Rattle.gateway_state.specs.declared.event.Dest.{Dest}
use Rattle.gateway_state.specs.declared.event.Dest.TheVariants.{Session as ToSession, Upstream}
use Rattle.gateway_state.specs.declared.notice.ChannelNotice.{ChannelNotice}
use Rattle.gateway_state.specs.Answer.{cached_as, cached_value}
use Rattle.gateway_state.specs.CachedRows.{is_cached_by_another, is_cached_of}
use Rattle.gateway_state.specs.Connections.{is_not_to, is_to, outbox_in, same_dest}
use Rattle.gateway_state.specs.Gateway.{Gateway}
use Rattle.gateway_state.specs.Interest.{is_read_through, is_reader, is_subscriber, reader_ask, readers}
use Rattle.gateway_state.specs.Notices.{channel_notice, channel_notices, channel_told, channels_told, link_notices, link_notices_of, links_told, notice_on, read_notice, read_notices, reads_told}
use Rattle.gateway_state.specs.Resolution.{is_real, rights_left}
use Rattle.gateway_state.specs.Rights.{channel_of, is_served, lead_in, link_connected, link_rights, may_read, rights_of}
use Rattle.gateway_state.specs.Searches.{leads_to}
use Rattle.gateway_state.specs.Sessions.{up_lost}
use Rattle.gateway_state.specs.Settled.{IsInUse, IsUpToDate}
use Rattle.gateway_state.specs.Step.{consequences}
use Rattle.gateway_state.specs.Updates.{is_unreadable, is_withheld, outbox_takes_updates, update_notice, update_notices, update_on, updates_told, updates_withheld, withheld}
use Rattle.gateway_state.specs.Variables.{is_among, is_wanted, link_of}
use Rattle.gateway_state.proofs.SettledChannels.{channels_settled, notice_by}
use Rattle.gateway_state.proofs.SettledMeaning.{all_in_use, none_told, nothing_told, quiet_up_to_date}
use Rattle.gateway_state.proofs.SettledSteps.{links_stay, reads_stay, updates_stay, withheld_stay}
use Rattle.touched_rows.specs.Touched.{channels_gone_on, disconnected, gone_notices_among, is_channel_among}
use Rattle.touched_rows.specs.Touches.{link_names, server_names}
use Rattle.touched_rows.proofs.Beside.{IsQuiet}
use Rattle.touched_rows.proofs.ChannelsGone.{IsLeftOf, is_found_among, left_told, reads_through}
use Rattle.touched_rows.proofs.Cleared.{all_of, left_have}
use Rattle.touched_rows.proofs.Connections.{HasNoMoreRoom}
use Rattle.touched_rows.proofs.LessGiven.{bare, is_given_to, read_on-stays, update_if_open, update_on-stays}
use Rattle.touched_rows.proofs.LinksQuiet.{link_quiet}
use Rattle.touched_rows.proofs.OneLink.{none_passing}
use Rattle.touched_rows.proofs.Numbered.{each_found}
use Rattle.touched_rows.proofs.OneVariable.{none_pass}
use Rattle.touched_rows.proofs.ReadersOf.{filtered_alike, found_left, not_not}
use Rattle.touched_rows.proofs.Shapes.{channels_told_shape, with_channels}
use Rattle.touched_rows.proofs.Tellings.{less_connections}
use Rattle.touched_rows.proofs.Tidy.{IsTidy}
use Rattle.touched_rows.proofs.TouchedAlone.{found_holds, found_passes, none_planned, none_planned_flat}

-- ---- rows that are left

-- none is left of none that pass
none_left : {A : Type 0} (test stays : A → Bool) (rows : List A) → length (filter test rows) ≤ 0 → find test (filter stays rows) ≡ None
none_left test stays [] few = refl
none_left {A = A} test stays (row ∷ rows) few = by (test row) refl (stays row) few (λ rest. none_left test stays rows rest)
  where
    by : (is : Bool) → test row ≡ is → (kept : Bool) → length (cond is (row ∷ filter test rows) (filter test rows)) ≤ 0
        → (length (filter test rows) ≤ 0 → find test (filter stays rows) ≡ None) → find test (cond kept (row ∷ filter stays rows) (filter stays rows)) ≡ None
    by true is kept few rest = absurd (omega (arith, few))
    by false is true few rest = rw is (rest few)
    by false is false few rest = rest few

-- the only row that passes, where it is left
same_left : {A : Type 0} (test stays : A → Bool) (rows : List A) (found : A) → length (filter test rows) ≤ 1 → find test (filter stays rows) ≡ Some found
    → find test rows ≡ Some found
same_left test stays [] found few is = is
same_left {A = A} test stays (row ∷ rows) found few is = by (test row) refl (stays row) few is (λ rest left. same_left test stays rows found rest left)
  where
    by : (passes : Bool) → test row ≡ passes → (kept : Bool) → length (cond passes (row ∷ filter test rows) (filter test rows)) ≤ 1
        → find test (cond kept (row ∷ filter stays rows) (filter stays rows)) ≡ Some found
        → (length (filter test rows) ≤ 1 → find test (filter stays rows) ≡ Some found → find test rows ≡ Some found)
        → cond passes (Some row) (find test rows) ≡ Some found
    by true e true few is rest = sym (ap (λ (t : Bool). cond t (Some row) (find test (filter stays rows))) e) ∙ is
    by true e false few is rest =
        let none : find test (filter stays rows) ≡ None = none_left test stays rows (omega (arith, few)) in
        absurd (no_row found (sym none ∙ is))
      where
        no_row : (x : A) → None ≡ Some x → ⊥
        no_row x h = cc
    by false e true few is rest = rest few (sym (ap (λ (t : Bool). cond t (Some row) (find test (filter stays rows))) e) ∙ is)
    by false e false few is rest = rest few is

-- where none is found none passes
none_found : {A : Type 0} (test : A → Bool) (rows : List A) → find test rows ≡ None → All (λ (row : A). test row ≡ false) rows
none_found {A = A} test [] none = All-nil (λ (row : A). test row ≡ false)
none_found {A = A} test (row ∷ rows) none = by (test row) refl none (λ rest. none_found test rows rest)
  where
    by : (is : Bool) → test row ≡ is → cond is (Some row) (find test rows) ≡ None → (find test rows ≡ None → All (λ (x : A). test x ≡ false) rows) → All (λ (x : A). test x ≡ false) (row ∷ rows)
    by true is none rest = absurd cc
    by false is none rest = All-cons (λ (x : A). test x ≡ false) row rows is (rest none)

-- where none passes none stays
none_stay : {A : Type 0} (test : A → Bool) (rows : List A) → All (λ (row : A). test row ≡ false) rows → filter test rows ≡ []
none_stay test [] fail = refl
none_stay {A = A} test (row ∷ rows) fail =
    ap (λ (t : Bool). cond t (row ∷ filter test rows) (filter test rows)) (All-head (λ (x : A). test x ≡ false) row rows fail)
    ∙ none_stay test rows (All-tail (λ (x : A). test x ≡ false) row rows fail)

-- rows that each have a notice if they were touched, and none if not
planned_each : {A B : Type 0} (notice : A → Option B) (say : A → B) (touched : A → Bool) (rows : List A) → ((row : A) → touched row ≡ true → notice row ≡ Some (say row))
    → All (λ (row : A). touched row ≡ false → notice row ≡ None) rows → filter_map notice rows ≡ map say (filter touched rows)
planned_each notice say touched [] some none = refl
planned_each {A = A} {B = B} notice say touched (row ∷ rows) some none =
    by (touched row) (some row) (All-head (λ (x : A). touched x ≡ false → notice x ≡ None) row rows none)
    (planned_each notice say touched rows some (All-tail (λ (x : A). touched x ≡ false → notice x ≡ None) row rows none))
  where
    by : (is : Bool) → (is ≡ true → notice row ≡ Some (say row)) → (is ≡ false → notice row ≡ None) → filter_map notice rows ≡ map say (filter touched rows)
        → cons_option (notice row) (filter_map notice rows) ≡ map say (cond is (row ∷ filter touched rows) (filter touched rows))
    by true some none rest = let first = some refl in λ i. cons_option (first i) (rest i)
    by false some none rest = let first = none refl in λ i. cons_option (first i) (rest i)

-- ---- links by the names of a server's

-- a name that none of the links has that pass
among_none : (test : LinkRow → Bool) (name : List ℕ) (rows : List LinkRow) → is_among (link_names (filter test rows)) name ≡ false → All (λ (link : LinkRow). test link ≡ true → is_named name link ≡ false) rows
among_none test name [] none = All-nil (λ (link : LinkRow). test link ≡ true → is_named name link ≡ false)
among_none test name (row ∷ rows) none = by (test row) refl (is_named name row) refl none (λ later. among_none test name rows later)
  where
    by : (passes : Bool) → test row ≡ passes → (named : Bool) → is_named name row ≡ named → is_among (link_names (cond passes (row ∷ filter test rows) (filter test rows))) name ≡ false
        → (is_among (link_names (filter test rows)) name ≡ false → All (λ (link : LinkRow). test link ≡ true → is_named name link ≡ false) rows)
        → All (λ (link : LinkRow). test link ≡ true → is_named name link ≡ false) (row ∷ rows)
    by true is true e none rest = absurd (true≢false (sym (ap (λ (t : Bool). t || is_among (link_names (filter test rows)) name) e) ∙ none))
    by true is false e none rest =
        All-cons (λ (link : LinkRow). test link ≡ true → is_named name link ≡ false) row rows (λ _. e)
        (rest (sym (ap (λ (t : Bool). t || is_among (link_names (filter test rows)) name) e) ∙ none))
    by false is named e none rest = All-cons (λ (link : LinkRow). test link ≡ true → is_named name link ≡ false) row rows (λ passes. absurd (true≢false (sym passes ∙ is))) (rest none)

-- a name that no link has
none_named : (test : LinkRow → Bool) (name : List ℕ) (rows : List LinkRow) → filter (is_named name) rows ≡ [] → is_among (link_names (filter test rows)) name ≡ false
none_named test name [] none = refl
none_named test name (row ∷ rows) none = by (is_named name row) refl (test row) none (λ rest. none_named test name rows rest)
  where
    by : (named : Bool) → is_named name row ≡ named → (passes : Bool) → cond named (row ∷ filter (is_named name) rows) (filter (is_named name) rows) ≡ []
        → (filter (is_named name) rows ≡ [] → is_among (link_names (filter test rows)) name ≡ false)
        → is_among (link_names (cond passes (row ∷ filter test rows) (filter test rows))) name ≡ false
    by true is passes none rest = absurd cc
    by false is true none rest = ap (λ (t : Bool). t || is_among (link_names (filter test rows)) name) is ∙ rest none
    by false is false none rest = rest none

-- the name of a server's link, once those are gone
gone_links : (number : ℕ) (name : List ℕ) (rows : List LinkRow) → length (filter (is_named name) rows) ≤ 1 → is_among (link_names (filter (is_of number) rows)) name ≡ true
    → find (is_named name) (filter (is_not_of number) rows) ≡ None
gone_links number name [] few among = refl
gone_links number name (row ∷ rows) few among = by (is_of number row) (is_named name row) refl few among (λ rest there. gone_links number name rows rest there)
  where
    more : Bool
    more = is_among (link_names (filter (is_of number) rows)) name

    by : (of named : Bool) → is_named name row ≡ named → length (cond named (row ∷ filter (is_named name) rows) (filter (is_named name) rows)) ≤ 1
        → is_among (link_names (cond of (row ∷ filter (is_of number) rows) (filter (is_of number) rows))) name ≡ true
        → (length (filter (is_named name) rows) ≤ 1 → more ≡ true → find (is_named name) (filter (is_not_of number) rows) ≡ None)
        → find (is_named name) (cond (not of) (row ∷ filter (is_not_of number) rows) (filter (is_not_of number) rows)) ≡ None
    by true true is few among rest = none_left (is_named name) (is_not_of number) rows (omega (arith, few))
    by true false is few among rest = rest few (sym (ap (λ (t : Bool). t || more) is) ∙ among)
    by false true is few among rest =
        absurd (true≢false (sym among ∙ none_named (is_of number) name rows (none_passing (is_named name) rows (omega (arith, few)))))
    by false false is few among rest = rw is (rest few among)

-- ---- outboxes of sessions

other_dest : (dest : Dest) (server session : ℕ) → same_dest dest (Upstream server) ≡ true → same_dest dest (ToSession session) ≡ false
other_dest (ToSession number) server session is = absurd (true≢false (sym is))
other_dest (Upstream number) server session is = refl

sessions_left : (connections : List Connection) (number : ℕ) → HasNoMoreRoom connections (filter (is_not_to (Upstream number)) connections)
sessions_left connections number limits session taking =
    let same = found_left (is_to (ToSession session)) (is_not_to (Upstream number)) connections
    (all_of (λ (row : Connection). is_not_to (Upstream number) row ≡ false → is_to (ToSession session) row ≡ false) connections
    (λ row gone. other_dest row.dest number session (not_not (is_to (Upstream number) row) gone))) in
    sym (ap (λ (row : Option Connection). outbox_takes_updates limits (outbox_in row)) same) ∙ taking

module _ (w : Gateway) (tidy : IsTidy w) (number : ℕ) where
  abbrev names : List (List ℕ)
  names = server_names w number

  abbrev x : Gateway
  x = up_lost w number

  -- ---- the links that are left

  gone : (other : List ℕ) → is_among names other ≡ true → link_of x other ≡ None
  gone other among = gone_links number other w.upstream.links (tidy.links_apart other) among

  others_left : (other : List ℕ) → is_among names other ≡ false → link_of x other ≡ link_of w other
  others_left other none =
      found_left (is_named other) (is_not_of number) w.upstream.links
      (All-weaker (λ (link : LinkRow). is_of number link ≡ true → is_named other link ≡ false) (λ (link : LinkRow). is_not_of number link ≡ false → is_named other link ≡ false)
      (λ link fails gone. fails (not_not (is_of number link) gone)) w.upstream.links (among_none (is_of number) other w.upstream.links none))

  rights_same : (c : Channel) → is_channel_among names c ≡ false → rights_of x c ≡ rights_of w c
  rights_same c off = ap (λ (over : Option LinkRow). bit_and (link_rights over) (rights_left w.policy (lead_in w c.session c.asked))) (others_left c.real off)

  values : (cid native dtype count : ℕ) → cached_value w cid native dtype count ≡ None → cached_value x cid native dtype count ≡ None
  values cid native dtype count none = by (find (is_cached_of cid) x.cache) refl
    where
      by : (found : Option LastMessage) → find (is_cached_of cid) x.cache ≡ found → cached_as native dtype count found ≡ None
      by None is = refl
      by (Some last) is = ap (cached_as native dtype count) (sym (same_left (is_cached_of cid) (is_cached_by_another number) w.cache last (tidy.cached_apart cid) is)) ∙ none

  -- ---- the pass over channels

  is_gone : (c : Channel) → is_channel_among names c ≡ true → channel_notice x c ≡ Some (disconnected c)
  is_gone c among =
      let served : is_served x c ≡ false =
      ap (λ (over : Option LinkRow). is_real (lead_in w c.session c.asked) c.real && link_connected over) (gone c.real among)
      ∙ and_right (is_real (lead_in w c.session c.asked) c.real) false refl in
      ap (λ (t : Bool). notice_by t (eqb c.rights_told (rights_of x c)) (rights_of x c) c) served

  others_quiet : All (λ (c : Channel). is_channel_among names c ≡ false → channel_notice x c ≡ None) w.clients.channels
  others_quiet =
      All-weaker (λ (c : Channel). channel_notice w c ≡ None) (λ (c : Channel). is_channel_among names c ≡ false → channel_notice x c ≡ None)
      (λ c none off.
      let served : is_served x c ≡ is_served w c = ap (λ (over : Option LinkRow). is_real (lead_in w c.session c.asked) c.real && link_connected over) (others_left c.real off) in
      let rights = rights_same c off in
      (λ i. notice_by (served i) (eqb c.rights_told (rights i)) (rights i) c) ∙ none)
      w.clients.channels (none_told (channel_notice w) w.clients.channels tidy.settled.channels)

  same_pass : channels_told x ≡ channels_gone_on names x
  same_pass =
      ap (λ (notices : List ChannelNotice). fold channel_told x notices)
      (planned_each (channel_notice x) disconnected (is_channel_among names) w.clients.channels is_gone others_quiet)

  -- ---- what it leaves

  each_there : All (λ (c : Channel). channel_of w c.session c.sid ≡ Some c) w.clients.channels
  each_there = each_found w.clients.channels tidy.order.channels.apart

  quiet_subs : All (IsQuiet w) w.clients.subs
  quiet_subs k d within = record {
    kept = none_pass (is_withheld w) w.clients.subs tidy.settled.held_back k d within;
    due = none_told (update_notice w) w.clients.subs tidy.settled.updates k d within;
  }

  left_first : IsLeftOf w names x
  left_first = record {
    channels = each_there;
    subs = quiet_subs;
    reads = none_told (read_notice w) w.clients.reads tidy.settled.reads;
    room = sessions_left w.connections number;
    wanted = λ other none. refl;
    readers = λ other none. refl;
    subscribers = λ other none. refl;
  }

  left_after : IsLeftOf w names (channels_gone_on names x)
  left_after =
      left_told w names (filter (is_channel_among names) w.clients.channels) x
      (left_have (λ (c : Channel). channel_of w c.session c.sid ≡ Some c) (λ (c : Channel). is_found_among names (channel_of w c.session c.sid) ≡ true) (is_channel_among names)
      (λ c among there. ap (is_found_among names) there ∙ among) w.clients.channels each_there)
      left_first

  quiet_after : channel_notices (channels_gone_on names x) ≡ []
  quiet_after = ap channel_notices (sym same_pass) ∙ channels_settled x tidy.order.channels

  -- ---- the passes after that

  module _ (connections : List Connection) (channels : List Channel) (subs : List ClientSub) (reads : List WaitingRead) (writes : List WaitingWrite) where
    abbrev v : Gateway
    v = with_channels x connections channels subs reads writes

    module _ (left : IsLeftOf w names v) (quiet : channel_notices v ≡ []) where
      -- the channels that are left are on other variables
      none_among : All (λ (c : Channel). is_channel_among names c ≡ false) channels
      none_among =
          All-weaker (IsUpToDate v) (λ (c : Channel). is_channel_among names c ≡ false) (λ c up. by c (is_channel_among names c) refl up.served) channels (quiet_up_to_date v quiet)
        where
          by : (c : Channel) (among : Bool) → is_channel_among names c ≡ among → is_served v c ≡ true → among ≡ false
          by c true is served =
              let connected : link_connected (link_of x c.real) ≡ true = (and_parts (is_real (lead_in w c.session c.asked) c.real) (link_connected (link_of x c.real)) served).1 in
              absurd (true≢false (sym connected ∙ ap link_connected (gone c.real is)))
          by c false is served = refl

      found_off : (session sid : ℕ) (c : Channel) → channel_of v session sid ≡ Some c → is_channel_among names c ≡ false
      found_off session sid c is = found_holds (λ (row : Channel). is_channel_among names row ≡ false) (is_channel session sid) channels c none_among is

      found_there : (session sid : ℕ) (c : Channel) → channel_of v session sid ≡ Some c → channel_of w session sid ≡ Some c
      found_there session sid c is =
          let key = and_parts (eqb c.session session) (eqb c.sid sid) (found_passes (is_channel session sid) channels c is) in
          let sessions : c.session ≡ session = eqb-true c.session session key.0 in
          let sids : c.sid ≡ sid = eqb-true c.sid sid key.1 in
          sym (λ i. channel_of w (sessions i) (sids i))
          ∙ found_holds (λ (row : Channel). channel_of w row.session row.sid ≡ Some row) (is_channel session sid) channels c left.channels is

      not_withheld : withheld v ≡ []
      not_withheld =
          none_stay (is_withheld v) subs
          (All-weaker (IsQuiet w) (λ (sub : ClientSub). is_withheld v sub ≡ false) (λ sub calm. by sub (channel_of v sub.session sub.sid) refl calm.kept) subs left.subs)
        where
          by : (sub : ClientSub) (found : Option Channel) → channel_of v sub.session sub.sid ≡ found → is_withheld w sub ≡ false → (not sub.owed && is_unreadable v found) ≡ false
          by sub None is none = elim sub.owed as (λ t. (not t && false) ≡ false) [ true ↦ refl | false ↦ refl ]
          by sub (Some c) is none =
              ap (λ (rights : ℕ). not sub.owed && not (may_read rights)) (rights_same c (found_off sub.session sub.sid c is))
              ∙ sym (ap (λ (found : Option Channel). not sub.owed && is_unreadable w found) (found_there sub.session sub.sid c is)) ∙ none

      -- ---- links

      subscriber_same : (other : List ℕ) (sub : ClientSub) → is_subscriber v other sub ≡ reads_through w v other sub
      subscriber_same other sub = by (channel_of v sub.session sub.sid) refl
        where
          by : (found : Option Channel) → channel_of v sub.session sub.sid ≡ found → is_read_through v other found ≡ is_read_through w other found
          by None is = refl
          by (Some c) is = ap (λ (rights : ℕ). is_on other c && may_read rights) (rights_same c (found_off sub.session sub.sid c is))

      readers_same : (other : List ℕ) → filter (is_reader v other) channels ≡ filter (is_reader w other) channels
      readers_same other =
          filtered_alike (is_reader v other) (is_reader w other) channels
          (All-weaker (λ (c : Channel). is_channel_among names c ≡ false) (λ (c : Channel). is_reader v other c ≡ is_reader w other c)
          (λ c off. ap (λ (rights : ℕ). is_on other c && ltb 0 c.reach.count && may_read rights) (rights_same c off)) channels none_among)

      asks_same : (other : List ℕ) → is_among names other ≡ false → readers v other ≡ readers w other
      asks_same other none =
          let wanting : filter (is_subscriber v other) subs ≡ filter (is_subscriber w other) w.clients.subs =
          (λ i. filter (λ (sub : ClientSub). subscriber_same other sub i) subs) ∙ left.subscribers other none in
          let reading : filter (is_reader v other) channels ≡ filter (is_reader w other) w.clients.channels = readers_same other ∙ left.readers other none in
          λ i. map own_ask (wanting i) ++ map reader_ask (reading i)

      wanted_still : (other : List ℕ) → is_among names other ≡ false → is_wanted w other ≡ true → is_wanted v other ≡ true
      wanted_still other none there = ap (λ (t : Bool). t || list_any (leads_to w.policy other) w.searches) (left.wanted other none) ∙ there

      links_off : All (λ (link : LinkRow). is_among names link.name ≡ false) x.upstream.links
      links_off k d within =
          let link : LinkRow = get_or x.upstream.links k d in
          elim (is_among names link.name) as (λ t. is_among names link.name ≡ t → t ≡ false) [
            | true ↦ λ is.
                let unnamed : is_named link.name link ≡ false = none_found (is_named link.name) x.upstream.links (gone link.name is) k d within in
                absurd (true≢false (sym ((bytes_eq-Decides link.name link.name).1 refl) ∙ unnamed))
            | false ↦ λ is. refl
          ] refl

      each_link_quiet : All (λ (link : LinkRow). link_notices_of v link ≡ []) x.upstream.links
      each_link_quiet k d within =
          let link : LinkRow = get_or x.upstream.links k d in
          let off : is_among names link.name ≡ false = links_off k d within in
          link_quiet w v link (asks_same link.name off) (wanted_still link.name off)
          (All-filter (is_not_of number) (IsInUse w) w.upstream.links (all_in_use w tidy.settled) k d within)
          (All-filter (is_not_of number) (λ (row : LinkRow). link_notices_of w row ≡ []) w.upstream.links (nothing_told (link_notices_of w) w.upstream.links tidy.settled.links) k d within)

      no_links : link_notices v ≡ []
      no_links = none_planned_flat (link_notices_of v) x.upstream.links each_link_quiet

      -- ---- reads and updates

      over_same : (c : Channel) → is_channel_among names c ≡ false → option_map bare (link_of v c.real) ≡ option_map bare (link_of w c.real)
      over_same c off = ap (option_map bare) (others_left c.real off)

      reads_quiet : read_notices v ≡ []
      reads_quiet =
          none_planned (read_notice v) reads
          (All-weaker (λ (read : WaitingRead). read_notice w read ≡ None) (λ (read : WaitingRead). read_notice v read ≡ None)
          (λ read none. by read (channel_of v read.session read.sid) refl none) reads left.reads)
        where
          by : (read : WaitingRead) (found : Option Channel) → channel_of v read.session read.sid ≡ found → read_notice w read ≡ None → notice_on v read found ≡ None
          by read None is none = refl
          by read (Some c) is none =
              let off = found_off read.session read.sid c is in
              read_on-stays w v values c (rights_same c off) (over_same c off) read (sym (ap (notice_on w read) (found_there read.session read.sid c is)) ∙ none)

      open_before : (session : ℕ) → is_given_to v session ≡ true → is_given_to w session ≡ true
      open_before session open_to = (less_connections w connections left.room).sessions session open_to

      updates_quiet : update_notices v ≡ []
      updates_quiet =
          none_planned (update_notice v) subs
          (All-weaker (IsQuiet w) (λ (sub : ClientSub). update_notice v sub ≡ None)
          (λ sub calm. update_if_open w v sub (open_before sub.session) (by sub (channel_of v sub.session sub.sid) refl) calm.due) subs left.subs)
        where
          by : (sub : ClientSub) (found : Option Channel) → channel_of v sub.session sub.sid ≡ found → update_on w sub (channel_of w sub.session sub.sid) ≡ None → update_on v sub found ≡ None
          by sub None is none = refl
          by sub (Some c) is none =
              let off = found_off sub.session sub.sid c is in
              update_on-stays w v values c (rights_same c off) (over_same c off) sub (sym (ap (update_on w sub) (found_there sub.session sub.sid c is)) ∙ none)

      rest_stays : updates_told (reads_told (links_told (updates_withheld v))) ≡ v
      rest_stays =
          ap (λ (u : Gateway). updates_told (reads_told (links_told u))) (withheld_stay v not_withheld)
          ∙ ap (λ (u : Gateway). updates_told (reads_told u)) (links_stay v no_links)
          ∙ ap updates_told (reads_stay v reads_quiet)
          ∙ updates_stay v updates_quiet

  abbrev told : Gateway
  told = channels_gone_on names x

  no_more : updates_told (reads_told (links_told (updates_withheld told))) ≡ told
  no_more =
      let shape = channels_told_shape (gone_notices_among names x) x in
      subst (λ (v : Gateway). updates_told (reads_told (links_told (updates_withheld v))) ≡ v) (sym shape)
      (rest_stays told.connections told.clients.channels told.clients.subs told.clients.reads told.upstream.writes
      (subst (IsLeftOf w names) shape left_after) (subst (λ (v : Gateway). channel_notices v ≡ []) shape quiet_after))

  pub told_after_losing_server : consequences (up_lost w number) ≡ channels_gone_on (server_names w number) (up_lost w number)
  told_after_losing_server = ap (λ (v : Gateway). updates_told (reads_told (links_told (updates_withheld v)))) same_pass ∙ no_more
