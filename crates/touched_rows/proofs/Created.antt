-- A channel that is asked for concerns nobody else, whether it is made or not, but that a search may go.
use Rattle.std.proofs.Common.{◌≡◌, ℕ, ◌+◌, List, [], ◌∷◌, ◌++◌, Bool, true, false, cond, leb, ltb, not, ◌&&◌, ◌||◌, Option, Some, None, refl, sym, ap, subst, ◌∙◌}
use Rattle.std.specs.Prelude.{bit_and, filter, map, option_map}
use Rattle.std.specs.List.{All, cons_option, find, list_all, list_any}
use Rattle.std.proofs.lemmas.Bool.{and_parts, eq-eqb, true≢false}
use Rattle.std.proofs.lemmas.List.Elements.{All-cons, All-nil, All-weaker}
use Rattle.std.proofs.lemmas.List.Folds.{list_any-append}
use Rattle.std.proofs.lemmas.Slice.Eq.{bytes_eq-Decides}
use Rattle.rows.specs.Rows.{change_first}
use Rattle.ca_message.specs.declared.to_client.ToClient.TheVariants as replies
use Rattle.named_rows.specs.declared.channels.Reach.{Reach}
use Rattle.named_rows.specs.declared.channels.Channel.{Channel}
use Rattle.named_rows.specs.declared.reads.WaitingRead.{WaitingRead}
use Rattle.channel_table.specs.declared.sessions.Session.{Session}
use Rattle.named_rows.specs.declared.subs.ClientSub.{ClientSub}
use Rattle.named_rows.specs.Channels.{is_channel, is_on}
use Rattle.channel_table.specs.ClientRows.{channel_count}
use Rattle.channel_table.specs.Sessions.{is_numbered}
use Rattle.named_rows.specs.Demand.{own_ask}
use Rattle.link_table.specs.declared.links.LinkRow.{LinkRow}
use Rattle.link_table.specs.declared.links.LinkState.{LinkState}
use Rattle.link_table.specs.declared.links.LinkState.TheVariants.{Creating, Connected, Unusable}
use Rattle.link_table.specs.declared.counter.Counter.TheVariants.{Sid as CountsSids}
use Rattle.link_table.specs.Counters.{given_out}
use Rattle.link_table.specs.LinkRows.{Counters}
use Rattle.pv_alias.specs.declared.lead.Lead.{Lead}
use Rattle.gateway_state.specs.declared.event.Dest.TheVariants.{Session as ToSession}
use Rattle.gateway_state.specs.declared.notice.ChannelNotice.{ChannelNotice}
use Rattle.gateway_state.specs.declared.reading.Native.{Native}
use Rattle.gateway_state.specs.declared.search.RememberedSearch.{RememberedSearch}
use Rattle.gateway_state.specs.Clients.{channel_asked, created, created_as, created_over, creation_failed, fixed, next_sid, no_reach, remembered_by, rights_on, search_left_by, with_channel, with_host_fixed, without_search_for}
use Rattle.gateway_state.specs.Gateway.{Gateway}
use Rattle.gateway_state.specs.Interest.{is_read_through, is_reader, is_subscriber, reader_ask, readers}
use Rattle.gateway_state.specs.Notices.{channel_notice, channel_notices, notice_on, read_notice, read_notices}
use Rattle.gateway_state.specs.Resolution.{is_real, rights_left}
use Rattle.gateway_state.specs.Rights.{channel_of, is_served, lead_in, link_connected, link_rights, may_read, rights_of}
use Rattle.gateway_state.specs.Searches.{leads_to}
use Rattle.gateway_state.specs.Settled.{HasCidsApart, HasReadsOnChannels, HasSubsOnChannels, IsSettled, is_on_channel, is_sub_on_channel}
use Rattle.gateway_state.specs.Step.{consequences}
use Rattle.gateway_state.specs.Telling.{outgoing, sent}
use Rattle.gateway_state.specs.Updates.{is_open_to, is_unreadable, is_withheld, update_notice, update_notices, update_on, withheld}
use Rattle.gateway_state.specs.Variables.{ConnectedVariable, connected, connected_in, connected_over, is_connected, is_wanted, link_of}
use Rattle.gateway_state.proofs.SettledMeaning.{none_told}
use Rattle.gateway_state.proofs.SettledSteps.{settled_stays}
use Rattle.touched_rows.specs.declared.touched.Touched.TheVariants.{Nothing}
use Rattle.touched_rows.specs.Touches.{create_touches, create_touches_as, create_touches_over, consequences_of, left_touches, search_left_for}
use Rattle.touched_rows.proofs.LinksQuiet.{links_quiet}
use Rattle.touched_rows.proofs.Nothing.{settled_sent}
use Rattle.touched_rows.proofs.ReadersOf.{filtered_alike, passing_pushed, planned_alike}
use Rattle.touched_rows.proofs.SearchLeft.{IsOneOf, left_by_channel_is_one, told_after_leaving}
use Rattle.touched_rows.proofs.Searched.{told_after_remembering}
use Rattle.touched_rows.proofs.Sessions.{lead_after_fixing, settled_host_fixed}
use Rattle.touched_rows.proofs.TouchedAlone.{one_planned}

-- ---- rows on channels that stand

each_true : {A : Type 0} (test : A → Bool) (rows : List A) → list_all test rows ≡ true → All (λ (row : A). test row ≡ true) rows
each_true {A = A} test [] all = All-nil (λ (row : A). test row ≡ true)
each_true {A = A} test (row ∷ rows) all =
    let parts = and_parts (test row) (list_all test rows) all in
    All-cons (λ (x : A). test x ≡ true) row rows parts.0 (each_true test rows parts.1)

found_before : {A : Type 0} (test : A → Bool) (rows : List A) (new : A) → list_any test rows ≡ true → find test (rows ++ new ∷ []) ≡ find test rows
found_before test [] new there = absurd (true≢false (sym there))
found_before {A = A} test (row ∷ rows) new there = by (test row) there (λ later. found_before test rows new later)
  where
    by : (is : Bool) → (is || list_any test rows) ≡ true → (list_any test rows ≡ true → find test (rows ++ new ∷ []) ≡ find test rows)
        → cond is (Some row) (find test (rows ++ new ∷ [])) ≡ cond is (Some row) (find test rows)
    by true there rest = refl
    by false there rest = rest there

not_read : (on may : Bool) → (on && ltb 0 0 && may) ≡ false
not_read true may = refl
not_read false may = refl

or_first : (before after other : Bool) → (before ≡ true → after ≡ true) → (before || other) ≡ true → (after || other) ≡ true
or_first true true other more there = refl
or_first true false other more there = absurd (true≢false (sym (more refl)))
or_first false true other more there = refl
or_first false false other more there = there

-- ---- a channel more

module _ (w : Gateway) (settled : IsSettled w) (subs_on : HasSubsOnChannels w) (reads_on : HasReadsOnChannels w) (new : Channel) (counters : Counters)
    (unread : new.reach ≡ no_reach) (quiet : channel_notice w new ≡ None) where
  abbrev x : Gateway
  x = record w { clients = record w.clients { channels = w.clients.channels ++ new ∷ [] }; upstream = record w.upstream { counters = counters } }

  channels_quiet : channel_notices x ≡ []
  channels_quiet =
      one_planned (channel_notice w) w.clients.channels new (none_told (channel_notice w) w.clients.channels settled.channels)
      ∙ ap (λ (notice : Option ChannelNotice). cons_option notice []) quiet

  abbrev IsFoundBefore : ℕ → ℕ → Type 0
  IsFoundBefore session sid = channel_of x session sid ≡ channel_of w session sid

  subs_found : All (λ (sub : ClientSub). IsFoundBefore sub.session sub.sid) w.clients.subs
  subs_found =
      All-weaker (λ (sub : ClientSub). is_sub_on_channel w sub ≡ true) (λ (sub : ClientSub). IsFoundBefore sub.session sub.sid)
      (λ sub there. found_before (is_channel sub.session sub.sid) w.clients.channels new there) w.clients.subs (each_true (is_sub_on_channel w) w.clients.subs subs_on)

  reads_found : All (λ (read : WaitingRead). IsFoundBefore read.session read.sid) w.clients.reads
  reads_found =
      All-weaker (λ (read : WaitingRead). is_on_channel w read ≡ true) (λ (read : WaitingRead). IsFoundBefore read.session read.sid)
      (λ read there. found_before (is_channel read.session read.sid) w.clients.channels new there) w.clients.reads (each_true (is_on_channel w) w.clients.reads reads_on)

  not_withheld : withheld x ≡ []
  not_withheld =
      filtered_alike (is_withheld x) (is_withheld w) w.clients.subs
      (All-weaker (λ (sub : ClientSub). IsFoundBefore sub.session sub.sid) (λ (sub : ClientSub). is_withheld x sub ≡ is_withheld w sub)
      (λ sub same. ap (λ (found : Option Channel). not sub.owed && is_unreadable w found) same) w.clients.subs subs_found)
      ∙ settled.held_back

  reads_quiet : read_notices x ≡ []
  reads_quiet =
      planned_alike (read_notice x) (read_notice w) w.clients.reads
      (All-weaker (λ (read : WaitingRead). IsFoundBefore read.session read.sid) (λ (read : WaitingRead). read_notice x read ≡ read_notice w read)
      (λ read same. ap (notice_on w read) same) w.clients.reads reads_found)
      ∙ settled.reads

  due_as_before : (sub : ClientSub) → IsFoundBefore sub.session sub.sid → update_notice x sub ≡ update_notice w sub
  unfolding update_notice
  due_as_before sub same = ap (λ (found : Option Channel). cond (sub.owed && is_open_to w sub) (update_on w sub found) None) same

  updates_quiet : update_notices x ≡ []
  updates_quiet =
      planned_alike (update_notice x) (update_notice w) w.clients.subs
      (All-weaker (λ (sub : ClientSub). IsFoundBefore sub.session sub.sid) (λ (sub : ClientSub). update_notice x sub ≡ update_notice w sub) due_as_before w.clients.subs subs_found)
      ∙ settled.updates

  asks_same : (name : List ℕ) → readers x name ≡ readers w name
  asks_same name =
      let subs : filter (is_subscriber x name) w.clients.subs ≡ filter (is_subscriber w name) w.clients.subs =
      filtered_alike (is_subscriber x name) (is_subscriber w name) w.clients.subs
      (All-weaker (λ (sub : ClientSub). IsFoundBefore sub.session sub.sid) (λ (sub : ClientSub). is_subscriber x name sub ≡ is_subscriber w name sub)
      (λ sub same. ap (is_read_through w name) same) w.clients.subs subs_found) in
      let fails : is_reader w name new ≡ false =
      ap (λ (reach : Reach). is_on name new && ltb 0 reach.count && may_read (rights_of w new)) unread ∙ not_read (is_on name new) (may_read (rights_of w new)) in
      let channels = passing_pushed (is_reader w name) w.clients.channels new fails in
      λ i. map own_ask (subs i) ++ map reader_ask (channels i)

  still_wanted : (name : List ℕ) → is_wanted w name ≡ true → is_wanted x name ≡ true
  still_wanted name there =
      or_first (list_any (is_on name) w.clients.channels) (list_any (is_on name) (w.clients.channels ++ new ∷ [])) (list_any (leads_to w.policy name) w.searches)
      (λ on. list_any-append (is_on name) w.clients.channels (new ∷ []) ∙ rw on refl) there

  settled_channel_added : IsSettled x
  settled_channel_added = record {
    channels = channels_quiet;
    held_back = not_withheld;
    links = links_quiet w x asks_same still_wanted settled;
    reads = reads_quiet;
    updates = updates_quiet;
  }

-- ---- CREATE_CHAN

pub settled_creation_failed : (number cid : ℕ) (w : Gateway) → IsSettled w → IsSettled (creation_failed number cid w)
settled_creation_failed number cid w settled = settled_sent (ToSession number) (outgoing (replies.CreateChannelFail cid)) w settled

-- a session is found with its host fixed
found_fixed : (number : ℕ) (sessions : List Session) → find (is_numbered number) (change_first (is_numbered number) fixed sessions) ≡ option_map fixed (find (is_numbered number) sessions)
found_fixed number [] = refl
found_fixed number (row ∷ rows) = by (is_numbered number row) refl (found_fixed number rows)
  where
    by : (is : Bool) → is_numbered number row ≡ is → find (is_numbered number) (change_first (is_numbered number) fixed rows) ≡ option_map fixed (find (is_numbered number) rows)
        → find (is_numbered number) (cond is (fixed row ∷ rows) (row ∷ change_first (is_numbered number) fixed rows)) ≡ option_map fixed (cond is (Some row) (find (is_numbered number) rows))
    by true is rest = ap (λ (t : Bool). cond t (Some (fixed row)) (find (is_numbered number) rows)) is
    by false is rest = ap (λ (t : Bool). cond t (Some row) (find (is_numbered number) (change_first (is_numbered number) fixed rows))) is ∙ rest

-- no connected variable was found: what is told rests on the search alone, which may be one more
module _ (v : Gateway) (settled : IsSettled v) (order : HasCidsApart v) (number cid : ℕ) (name : List ℕ) where
  abbrev unmade : Option Session → Gateway
  unmade session = creation_failed number cid (remembered_by session name v)

  told_unmade : (session : Option Session) → consequences (unmade (option_map fixed session)) ≡ consequences_of (left_touches v.policy (search_left_for session name v)) (unmade (option_map fixed session))
  unfolding sent
  told_unmade None = settled_stays (creation_failed number cid v) (settled_creation_failed number cid v settled)
  told_unmade (Some row) = told_after_remembering (creation_failed number cid v) (settled_creation_failed number cid v settled) order row.host name

-- a channel is open: the search of its connection's address goes
left_is_one : (session : Option Session) (name : List ℕ) (w : Gateway) (row : RememberedSearch) → search_left_by session name w ≡ Some row → IsOneOf w.searches row
left_is_one None name w row is = absurd cc
left_is_one (Some session) name w row is = left_by_channel_is_one w.limits session.peer name w.searches row is

module _ (w : Gateway) (settled : IsSettled w) (order : HasCidsApart w) (subs_on : HasSubsOnChannels w) (reads_on : HasReadsOnChannels w) (number cid : ℕ) (name : List ℕ) where
  abbrev session : Option Session
  session = find (is_numbered number) w.clients.sessions

  -- its session's host is fixed first
  abbrev v : Gateway
  v = with_host_fixed number w

  settled_v : IsSettled v
  settled_v = settled_host_fixed number w settled

  session_is : find (is_numbered number) v.clients.sessions ≡ option_map fixed session
  session_is = found_fixed number w.clients.sessions

  -- the same search goes as went before
  looked_for_same : (of : Option Session) → search_left_for of name v ≡ search_left_for of name w
  looked_for_same None = refl
  looked_for_same (Some row) = refl

  module _ (lead : Lead) (leads : lead_in v number name ≡ Some lead) where
    settled_created : (link : LinkRow) (native : Native) → link_of v lead.real ≡ Some link → is_connected link.state ≡ true → IsSettled (created number cid name lead link native v)
    settled_created link native over known =
        let made : Gateway = with_channel number cid name lead.real (rights_on v lead link) v in
        let first : Gateway = sent (ToSession number) (outgoing (replies.AccessRights cid (rights_on v lead link))) made in
        settled_sent (ToSession number) (outgoing (replies.CreateChannel cid (next_sid v number) native.dtype native.count)) first
        (settled_sent (ToSession number) (outgoing (replies.AccessRights cid (rights_on v lead link))) made
        (settled_channel_added v settled_v subs_on reads_on new (given_out CountsSids v.limits.reuses_numbers (next_sid v number) v.upstream.counters) refl quiet))
      where
        new : Channel
        new = record { session = number; sid = next_sid v number; cid = cid; asked = name; real = lead.real; reach = no_reach; rights_told = rights_on v lead link }

        served : is_served v new ≡ true
        served =
            (λ i. is_real (leads i) lead.real && link_connected (over i))
            ∙ rw ((bytes_eq-Decides lead.real lead.real).1 refl) known

        rights : rights_of v new ≡ rights_on v lead link
        rights = λ i. bit_and (link_rights (over i)) (rights_left v.policy (leads i))

        quiet : channel_notice v new ≡ None
        quiet = rw (served, eq-eqb (rights_on v lead link) (rights_of v new) (sym rights)) refl

    opened_same : (link : LinkRow) (native : Native) (of : Option Session) → search_left_by (option_map fixed of) name (created number cid name lead link native v) ≡ search_left_by of name w
    unfolding sent
    opened_same link native None = refl
    opened_same link native (Some row) = refl

    told_created : (link : LinkRow) (native : Native) → link_of v lead.real ≡ Some link → is_connected link.state ≡ true
        → consequences (without_search_for number name (created number cid name lead link native v))
        ≡ consequences_of (left_touches w.policy (search_left_by session name w)) (without_search_for number name (created number cid name lead link native v))
    unfolding sent
    told_created link native over known =
        let x : Gateway = created number cid name lead link native v in
        let end : Gateway = without_search_for number name x in
        let found : Option Session = find (is_numbered number) x.clients.sessions in
        subst (λ (gone : Option RememberedSearch). consequences end ≡ consequences_of (left_touches w.policy gone) end)
        (ap (λ (of : Option Session). search_left_by of name x) session_is ∙ opened_same link native session)
        (told_after_leaving x (settled_created link native over known) order (search_left_by found name x) (left_is_one found name x))

    told_not_connected : consequences (created_over number cid name lead None v) ≡ consequences_of (create_touches_over w session name None) (created_over number cid name lead None v)
    told_not_connected =
        let x : Option Session → Gateway = λ found. creation_failed number cid (remembered_by found name v) in
        subst (λ (found : Option Session). consequences (x found) ≡ consequences_of (left_touches w.policy (search_left_for session name w)) (x found)) (sym session_is)
        (told_unmade v settled_v order number cid name session
        ∙ ap (λ (gone : Option RememberedSearch). consequences_of (left_touches w.policy gone) (x (option_map fixed session))) (looked_for_same session))

    told_over : (link : Option LinkRow) → link_of v lead.real ≡ link
        → consequences (created_over number cid name lead (connected_over link) v) ≡ consequences_of (create_touches_over w session name (connected_over link)) (created_over number cid name lead (connected_over link) v)
    told_over None is = told_not_connected
    told_over (Some link) is = by link.state refl
      where
        by : (state : LinkState) → link.state ≡ state
            → consequences (created_over number cid name lead (connected_in link state) v) ≡ consequences_of (create_touches_over w session name (connected_in link state)) (created_over number cid name lead (connected_in link state) v)
        by Creating state = told_not_connected
        by Unusable state = told_not_connected
        by (Connected sid dtype count) state = told_created link (record { dtype = dtype; count = count }) is (ap is_connected state)

    told_as : consequences (created_as number cid name (Some lead) v) ≡ consequences_of (create_touches_as w number name (Some lead)) (created_as number cid name (Some lead) v)
    told_as =
        let over : Option ConnectedVariable = connected v lead.real in
        elim (leb w.limits.channels (channel_count number w.clients))
        as (λ t. consequences (cond t (creation_failed number cid v) (created_over number cid name lead over v))
        ≡ consequences_of (cond t Nothing (create_touches_over w session name over)) (cond t (creation_failed number cid v) (created_over number cid name lead over v)))
        [ true ↦ settled_stays (creation_failed number cid v) (settled_creation_failed number cid v settled_v) | false ↦ told_over (link_of v lead.real) refl ]

  pub told_after_channel_asked : consequences (channel_asked number cid name w) ≡ consequences_of (create_touches w number name) (channel_asked number cid name w)
  told_after_channel_asked = by (lead_in w number name) refl
    where
      by : (found : Option Lead) → lead_in w number name ≡ found → consequences (created_as number cid name found v) ≡ consequences_of (create_touches_as w number name found) (created_as number cid name found v)
      by None is = settled_stays (creation_failed number cid v) (settled_creation_failed number cid v settled_v)
      by (Some lead) is = told_as lead (lead_after_fixing w number number name ∙ is)
