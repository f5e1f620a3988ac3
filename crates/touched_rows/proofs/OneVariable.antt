-- Where a settled state was changed on one variable alone, what follows is told on that variable alone.
use Rattle.std.proofs.Common.{◌≡◌, ℕ, ◌≤◌, List, [], ◌∷◌, Bool, true, false, cond, eqb, ltb, ◌&&◌, ◌||◌, length, Option, Some, None, refl, sym, ap, subst, ◌∙◌}
use Rattle.std.specs.Prelude.{bit_and, bytes_eq, filter, filter_map, map}
use Rattle.std.specs.List.{All, cons_option, find, fold, list_all, list_any}
use Rattle.std.specs.Option.{option_map}
use Rattle.std.proofs.lemmas.Bool.{and_from}
use Rattle.std.proofs.lemmas.List.Elements.{All-cons, All-head, All-nil, All-tail, All-weaker}
use Rattle.channel_table.specs.ClientRows.{ClientRows, is_read_for, is_sub_to as is_sub_in}
use Rattle.named_rows.specs.declared.channels.Channel.{Channel}
use Rattle.named_rows.specs.declared.reads.WaitingRead.{WaitingRead}
use Rattle.named_rows.specs.declared.subs.ClientSub.{ClientSub}
use Rattle.named_rows.specs.Channels.{is_channel, is_channel_on, is_on}
use Rattle.named_rows.specs.Demand.{own_ask}
use Rattle.link_table.specs.declared.links.LinkRow.{LinkRow}
use Rattle.link_table.specs.Links.{is_named}
use Rattle.gateway_state.specs.declared.cached.LastMessage.{LastMessage}
use Rattle.gateway_state.specs.declared.notice.ChannelNotice.{ChannelNotice}
use Rattle.gateway_state.specs.declared.notice.LinkNotice.{LinkNotice}
use Rattle.gateway_state.specs.declared.notice.ReadNotice.{ReadNotice}
use Rattle.gateway_state.specs.declared.notice.UpdateNotice.{UpdateNotice}
use Rattle.gateway_state.specs.Answer.{cached_as, cached_value}
use Rattle.gateway_state.specs.CachedRows.{is_cached_of}
use Rattle.gateway_state.specs.Gateway.{Gateway}
use Rattle.gateway_state.specs.Interest.{is_read_through, is_reader}
use Rattle.gateway_state.specs.Notices.{channel_notice, channel_told, channels_told, link_notices_of, link_told, links_told, notice_on, read_notice, read_told, reads_told}
use Rattle.gateway_state.specs.Resolution.{is_real, rights_left}
use Rattle.gateway_state.specs.Rights.{channel_of, is_served, lead_in, link_connected, link_rights, may_read, rights_of}
use Rattle.gateway_state.specs.Searches.{leads_to}
use Rattle.gateway_state.specs.Servers.{waits_for}
use Rattle.gateway_state.specs.Settled.{AreApart, AreUnlike, HasSubsApart, is_same_link}
use Rattle.gateway_state.specs.Step.{consequences}
use Rattle.gateway_state.specs.Updates.{is_sub_to, is_withheld, owed_to_all, update_notice, update_on, update_told, updates_told, updates_withheld, withheld}
use Rattle.gateway_state.specs.Variables.{is_wanted, link_of}
use Rattle.gateway_state.proofs.KeptByRuns.{kept_channels}
use Rattle.gateway_state.proofs.SettledChannels.{notice_by}
use Rattle.gateway_state.proofs.SettledMeaning.{none_told}
use Rattle.gateway_state.proofs.SettledSteps.{found_is_on}
use Rattle.gateway_state.proofs.SettledWithheld.{owing_changed, with_subs}
use Rattle.gateway_state.proofs.SubsApart.{subs_apart_kept}
use Rattle.touched_rows.specs.Touched.{channel_notices_on, channels_told_on, link_notices_over, link_told_on, owed_where, read_notices_on, reads_told_on, updates_told_on, updates_withheld_on, variable_told, withheld_on}
use Rattle.touched_rows.proofs.Beside.{IsBeside, IsQuiet, beside_owed, beside_told, is_notice_on, links_beside, not_on, reads_beside, updates_beside, withheld_beside}
use Rattle.touched_rows.proofs.LessGiven.{bare, read_on-stays, update_if_open, update_on-stays, update_stays}
use Rattle.touched_rows.proofs.Numbered.{each_found}
use Rattle.touched_rows.proofs.OneLink.{link_told_clients, one_link_of}
use Rattle.touched_rows.proofs.Owing.{owing_each}
use Rattle.touched_rows.proofs.ReadersOf.{passing_left}
use Rattle.touched_rows.proofs.Shapes.{reads_told_shape}
use Rattle.touched_rows.proofs.Tellings.{less_reads_told}
use Rattle.touched_rows.proofs.Tidy.{IsTidy}
use Rattle.touched_rows.proofs.TouchedAlone.{touched_alone}
use Rattle.touched_rows.proofs.WantedLinks.{SparesWanted, one_spares, open_no_more, values_no_more, wanted_link_kept, wanted_rights_kept}

-- none of the rows passes
pub none_pass : {A : Type 0} (test : A → Bool) (rows : List A) → filter test rows ≡ [] → All (λ (row : A). test row ≡ false) rows
none_pass {A = A} test [] none = All-nil (λ (row : A). test row ≡ false)
none_pass {A = A} test (row ∷ rows) none = by (test row) refl none (λ rest. none_pass test rows rest)
  where
    by : (is : Bool) → test row ≡ is → cond is (row ∷ filter test rows) (filter test rows) ≡ [] → (filter test rows ≡ [] → All (λ (x : A). test x ≡ false) rows)
        → All (λ (x : A). test x ≡ false) (row ∷ rows)
    by true is none rest = absurd cc
    by false is none rest = All-cons (λ (x : A). test x ≡ false) row rows is (rest none)

-- ---- the notices on a variable's channels are on the variable

all_on : (w x : Gateway) (name : List ℕ) (rows : List Channel) → All (λ (c : Channel). channel_of w c.session c.sid ≡ Some c) rows
    → list_all (is_notice_on w name) (filter_map (channel_notice x) (filter (is_on name) rows)) ≡ true
all_on w x name [] there = refl
all_on w x name (c ∷ rows) there =
    by (is_on name c) refl (all_on w x name rows (All-tail (λ (row : Channel). channel_of w row.session row.sid ≡ Some row) c rows there))
  where
    more : List ChannelNotice
    more = filter_map (channel_notice x) (filter (is_on name) rows)

    here : is_channel_on name (channel_of w c.session c.sid) ≡ true → (served same : Bool) → list_all (is_notice_on w name) more ≡ true
        → list_all (is_notice_on w name) (cons_option (notice_by served same (rights_of x c) c) more) ≡ true
    here on false same rest = and_from (is_channel_on name (channel_of w c.session c.sid)) (list_all (is_notice_on w name) more) on rest
    here on true true rest = rest
    here on true false rest = and_from (is_channel_on name (channel_of w c.session c.sid)) (list_all (is_notice_on w name) more) on rest

    by : (on : Bool) → is_on name c ≡ on → list_all (is_notice_on w name) more ≡ true
        → list_all (is_notice_on w name) (filter_map (channel_notice x) (cond on (c ∷ filter (is_on name) rows) (filter (is_on name) rows))) ≡ true
    by false is rest = rest
    by true is rest =
        here (ap (is_channel_on name) (All-head (λ (row : Channel). channel_of w row.session row.sid ≡ Some row) c rows there) ∙ is) (is_served x c) (eqb c.rights_told (rights_of x c)) rest

-- ---- the passes after that over channels

module _ (w y : Gateway) (links : List LinkRow) (name : List ℕ) (beside : IsBeside w y links name) where
  same_held : withheld_on name y ≡ withheld y
  same_held = passing_left (is_withheld y) (is_sub_to y name) y.clients.subs (withheld_beside w y links name beside)

  held_alone : updates_withheld y ≡ updates_withheld_on name y
  held_alone = ap (owed_to_all y) (sym same_held)

  held_shape : AreApart y.clients.subs → updates_withheld_on name y ≡ with_subs y (map (owed_where (is_withheld y)) y.clients.subs)
  held_shape apart =
      ap (owed_to_all y) same_held ∙ owing_changed (withheld y) y
      ∙ ap (with_subs y) (owing_each (is_withheld y) y.clients.subs apart)

  beside_held : AreApart y.clients.subs → IsBeside w (updates_withheld_on name y) links name
  beside_held apart = subst (λ (v : Gateway). IsBeside w v links name) (sym (held_shape apart)) (beside_owed w y links name beside)

  module _ (order : AreUnlike is_same_link links) (one : length (filter (is_named name) links) ≤ 1)
      (quiet : All (λ (link : LinkRow). is_named name link ≡ false → link_notices_of w link ≡ []) links) where
    links_alone : links_told y ≡ link_told_on name y
    links_alone =
        ap (λ (notices : List LinkNotice). fold link_told y notices)
        (one_link_of y name (links_beside w y links name beside quiet) (subst (λ (rows : List LinkRow). length (filter (is_named name) rows) ≤ 1) (sym beside.upstream) one))

    abbrev notices : List LinkNotice
    notices = link_notices_over y (link_of y name)

    abbrev after : Gateway
    after = link_told_on name y

    spares : SparesWanted y notices
    spares = one_spares y (subst (λ (rows : List LinkRow). AreUnlike is_same_link rows) (sym beside.upstream) order) name

    clients_same : after.clients ≡ y.clients
    clients_same = link_told_clients y name

    -- channels that stand are wanted
    wanted_there : (session sid : ℕ) (c : Channel) → channel_of y session sid ≡ Some c → is_wanted y c.real ≡ true
    wanted_there session sid c is =
        ap (λ (t : Bool). t || list_any (leads_to y.policy c.real) y.searches) (found_is_on (is_channel session sid) y.clients.channels c is)

    read_after : (read : WaitingRead) → read_notice y read ≡ None → read_notice after read ≡ None
    read_after read none =
        ap (λ (rows : ClientRows). notice_on after read (find (is_channel read.session read.sid) rows.channels)) clients_same
        ∙ by (channel_of y read.session read.sid) refl none
      where
        by : (found : Option Channel) → channel_of y read.session read.sid ≡ found → notice_on y read found ≡ None → notice_on after read found ≡ None
        by None is none = refl
        by (Some c) is none =
            let there = wanted_there read.session read.sid c is in
            read_on-stays y after (values_no_more notices y) c (wanted_rights_kept y notices spares c there) (wanted_link_kept y notices spares c.real there) read none

    update_after : (sub : ClientSub) → update_notice y sub ≡ None → update_notice after sub ≡ None
    update_after sub none =
        update_if_open y after sub (open_no_more notices y sub.session)
        (λ unsaid. ap (λ (rows : ClientRows). update_on after sub (find (is_channel sub.session sub.sid) rows.channels)) clients_same
        ∙ by (channel_of y sub.session sub.sid) refl unsaid)
        none
      where
        by : (found : Option Channel) → channel_of y sub.session sub.sid ≡ found → update_on y sub found ≡ None → update_on after sub found ≡ None
        by None is none = refl
        by (Some c) is none =
            let there = wanted_there sub.session sub.sid c is in
            update_on-stays y after (values_no_more notices y) c (wanted_rights_kept y notices spares c there) (wanted_link_kept y notices spares c.real there) sub none

    -- rows on other variables, in a state with the same clients
    reads_left : (rows : ClientRows) → rows ≡ y.clients → All (λ (read : WaitingRead). is_read_for rows name read ≡ false → read_notice after read ≡ None) rows.reads
    reads_left rows same =
        subst (λ (of : ClientRows). All (λ (read : WaitingRead). is_read_for of name read ≡ false → read_notice after read ≡ None) of.reads) (sym same)
        (All-weaker (λ (read : WaitingRead). waits_for y name read ≡ false → read_notice y read ≡ None) (λ (read : WaitingRead). waits_for y name read ≡ false → read_notice after read ≡ None)
        (λ read none off. read_after read (none off)) y.clients.reads (reads_beside w y links name beside))

    subs_left : (rows : ClientRows) → rows ≡ y.clients → All (λ (sub : ClientSub). is_sub_in rows name sub ≡ false → update_notice after sub ≡ None) rows.subs
    subs_left rows same =
        subst (λ (of : ClientRows). All (λ (sub : ClientSub). is_sub_in of name sub ≡ false → update_notice after sub ≡ None) of.subs) (sym same)
        (All-weaker (λ (sub : ClientSub). is_sub_to y name sub ≡ false → update_notice y sub ≡ None) (λ (sub : ClientSub). is_sub_to y name sub ≡ false → update_notice after sub ≡ None)
        (λ sub none off. update_after sub (none off)) y.clients.subs (updates_beside w y links name beside))

    reads_alone : reads_told after ≡ reads_told_on name after
    reads_alone =
        ap (λ (notices : List ReadNotice). fold read_told after notices)
        (touched_alone (read_notice after) (waits_for after name) after.clients.reads (reads_left after.clients clients_same))

    -- once the reads are told
    abbrev read : Gateway
    read = reads_told_on name after

    updates_alone : updates_told read ≡ updates_told_on name read
    updates_alone =
        let told : List ReadNotice = read_notices_on name after in
        let shape = reads_told_shape told after in
        ap (λ (notices : List UpdateNotice). fold update_told read notices)
        (touched_alone (update_notice read) (is_sub_to read name) read.clients.subs
        (subst (λ (v : Gateway). All (λ (sub : ClientSub). is_sub_to v name sub ≡ false → update_notice read sub ≡ None) v.clients.subs) (sym shape)
        (All-weaker (λ (sub : ClientSub). is_sub_to after name sub ≡ false → update_notice after sub ≡ None) (λ (sub : ClientSub). is_sub_to after name sub ≡ false → update_notice read sub ≡ None)
        (λ sub none off. update_stays after read (less_reads_told told after) sub (none off)) after.clients.subs (subs_left after.clients clients_same))))

    pub told_from_links : updates_told (reads_told (links_told y)) ≡ updates_told_on name (reads_told_on name (link_told_on name y))
    told_from_links =
        ap (λ (v : Gateway). updates_told (reads_told v)) links_alone ∙ ap updates_told reads_alone ∙ updates_alone

-- ---- other links, where the variable's own is gone or was changed

module _ (w : Gateway) (tidy : IsTidy w) (links : List LinkRow) (cache : List LastMessage) (name : List ℕ)
    (others : (other : List ℕ) → bytes_eq other name ≡ false → find (is_named other) links ≡ link_of w other)
    (values : (cid native dtype count : ℕ) → cached_value w cid native dtype count ≡ None → cached_as native dtype count (find (is_cached_of cid) cache) ≡ None)
    (quiet : All (λ (link : LinkRow). is_named name link ≡ false → link_notices_of w link ≡ []) links)
    (one : length (filter (is_named name) links) ≤ 1) (order : AreUnlike is_same_link links) where
  abbrev x : Gateway
  x = record w { cache = cache; upstream = record w.upstream { links = links } }

  rights_same : (c : Channel) → is_on name c ≡ false → rights_of x c ≡ rights_of w c
  rights_same c off = ap (λ (over : Option LinkRow). bit_and (link_rights over) (rights_left w.policy (lead_in w c.session c.asked))) (others c.real off)

  each_there : All (λ (c : Channel). channel_of w c.session c.sid ≡ Some c) w.clients.channels
  each_there = each_found w.clients.channels tidy.order.channels.apart

  -- readers of another variable
  reader_same : (other : List ℕ) → bytes_eq other name ≡ false → (c : Channel) → is_reader x other c ≡ is_reader w other c
  reader_same other differ c = by (is_on name c) refl
    where
      by : (on : Bool) → is_on name c ≡ on → is_reader x other c ≡ is_reader w other c
      by false is = ap (λ (rights : ℕ). is_on other c && ltb 0 c.reach.count && may_read rights) (rights_same c is)
      by true is = rw (not_on name other differ c is) refl

  subscriber_same : (other : List ℕ) → bytes_eq other name ≡ false → (found : Option Channel) → is_read_through x other found ≡ is_read_through w other found
  subscriber_same other differ None = refl
  subscriber_same other differ (Some c) = by (is_on name c) refl
    where
      by : (on : Bool) → is_on name c ≡ on → (is_on other c && may_read (rights_of x c)) ≡ (is_on other c && may_read (rights_of w c))
      by false is = ap (λ (rights : ℕ). is_on other c && may_read rights) (rights_same c is)
      by true is = rw (not_on name other differ c is) refl

  quiet_subs : All (λ (sub : ClientSub). is_sub_to w name sub ≡ false → IsQuiet w sub) w.clients.subs
  quiet_subs k d within off = record {
    kept = none_pass (is_withheld w) w.clients.subs tidy.settled.held_back k d within;
    due = none_told (update_notice w) w.clients.subs tidy.settled.updates k d within;
  }

  beside_first : IsBeside w x links name
  beside_first = record {
    upstream = refl;
    policy = refl;
    searches = refl;
    servers = refl;
    channels =
        All-weaker (λ (c : Channel). channel_of w c.session c.sid ≡ Some c) (λ (c : Channel). is_on name c ≡ false → channel_of w c.session c.sid ≡ Some c)
        (λ c there off. there) w.clients.channels each_there;
    rights = rights_same;
    over = λ c off. ap (option_map bare) (others c.real off);
    values = values;
    sessions = λ number open_to. open_to;
    subs = quiet_subs;
    reads =
        All-weaker (λ (read : WaitingRead). read_notice w read ≡ None) (λ (read : WaitingRead). waits_for w name read ≡ false → read_notice w read ≡ None)
        (λ read none off. none) w.clients.reads (none_told (read_notice w) w.clients.reads tidy.settled.reads);
    names = λ other differ. refl;
    readers = λ other differ. λ i. filter (λ (c : Channel). reader_same other differ c i) w.clients.channels;
    asks = λ other differ.
        λ i. map own_ask (filter (λ (sub : ClientSub). subscriber_same other differ (channel_of w sub.session sub.sid) i) w.clients.subs);
  }

  channels_alone : channels_told x ≡ channels_told_on name x
  channels_alone =
      ap (λ (notices : List ChannelNotice). fold channel_told x notices)
      (touched_alone (channel_notice x) (is_on name) w.clients.channels
      (All-weaker (λ (c : Channel). channel_notice w c ≡ None) (λ (c : Channel). is_on name c ≡ false → channel_notice x c ≡ None)
      (λ c none off.
      let served : is_served x c ≡ is_served w c = ap (λ (over : Option LinkRow). is_real (lead_in w c.session c.asked) c.real && link_connected over) (others c.real off) in
      let rights = rights_same c off in
      (λ i. notice_by (served i) (eqb c.rights_told (rights i)) (rights i) c) ∙ none)
      w.clients.channels (none_told (channel_notice w) w.clients.channels tidy.settled.channels)))

  abbrev told : Gateway
  told = channels_told_on name x

  beside_channels : IsBeside w told links name
  beside_channels = beside_told w links name (channel_notices_on name x) x (all_on w x name w.clients.channels each_there) beside_first

  apart_after : AreApart told.clients.subs
  apart_after = kept_channels HasSubsApart subs_apart_kept.rows (channel_notices_on name x) x tidy.subs_apart

  pub told_on_variable : consequences x ≡ variable_told name x
  told_on_variable =
      ap (λ (v : Gateway). updates_told (reads_told (links_told (updates_withheld v)))) channels_alone
      ∙ ap (λ (v : Gateway). updates_told (reads_told (links_told v))) (held_alone w told links name beside_channels)
      ∙ told_from_links w (updates_withheld_on name told) links name (beside_held w told links name beside_channels apart_after) order one quiet
