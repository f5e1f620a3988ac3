-- Each telling leaves a state that gives others no more, unless it drops a link.
use Rattle.std.proofs.Common.{◌≡◌, ℕ, ◌+◌, List, [], ◌∷◌, ◌++◌, Bool, true, false, cond, eqb, not, Option, Some, None, refl, sym, ap, ◌∙◌}
use Rattle.std.specs.Prelude.{bit_and, filter, option_map}
use Rattle.std.specs.List.{find, fold, list_all}
use Rattle.std.proofs.lemmas.Bool.{and_from, and_parts, eq-eqb, eqb-true, true≢false}
use Rattle.std.proofs.lemmas.List.Folds.{list_all-append}
use Rattle.rows.specs.Rows.{change_first, remove_first}
use Rattle.ca_message.specs.declared.to_client.ToClient.TheVariants as replies
use Rattle.ca_message.specs.declared.to_server.ToServer.TheVariants as requests
use Rattle.named_rows.specs.declared.reads.WaitingRead.{WaitingRead}
use Rattle.named_rows.specs.declared.subs.ClientSub.{ClientSub}
use Rattle.named_rows.specs.Reads.{same_read}
use Rattle.named_rows.specs.Subs.{is_sub, with_owed}
use Rattle.link_table.specs.declared.links.Subject.TheVariants.{Properties, Values}
use Rattle.link_table.specs.declared.links.Subject.{Subject}
use Rattle.link_table.specs.declared.counter.Counter.TheVariants.{Subscription as CountsSubscriptions}
use Rattle.link_table.specs.Counters.{given_out}
use Rattle.link_table.specs.LinkRows.{Counters}
use Rattle.fanout.specs.declared.outbox.Out.{Out}
use Rattle.link_table.specs.declared.links.LinkRow.{LinkRow}
use Rattle.link_table.specs.declared.links.LinkState.{LinkState}
use Rattle.link_table.specs.declared.links.LinkState.TheVariants.{Creating, Connected, Unusable}
use Rattle.link_table.specs.declared.links.Subscription.{Subscription}
use Rattle.link_table.specs.Links.{is_link, is_named, sub_at, with_subscription}
use Rattle.mask_merge.specs.declared.want.Want.{Want}
use Rattle.gateway_state.specs.declared.cached.LastMessage.{LastMessage}
use Rattle.gateway_state.specs.declared.connections.Connection.{Connection}
use Rattle.gateway_state.specs.declared.event.Dest.{Dest}
use Rattle.gateway_state.specs.declared.event.Dest.TheVariants.{Session as ToSession, Upstream}
use Rattle.gateway_state.specs.declared.notice.LinkNotice.{LinkNotice}
use Rattle.gateway_state.specs.declared.notice.LinkNotice.TheVariants.{Cancelled, Unread, Subscribed, Dropped}
use Rattle.gateway_state.specs.declared.notice.ReadNotice.{ReadNotice}
use Rattle.gateway_state.specs.declared.notice.ReadNotice.TheVariants.{Refused, Answered}
use Rattle.gateway_state.specs.declared.notice.UpdateNotice.{UpdateNotice}
use Rattle.gateway_state.specs.Answer.{cached_as}
use Rattle.gateway_state.specs.CachedRows.{is_cached_elsewhere, is_cached_of}
use Rattle.gateway_state.specs.Connections.{given, is_to, marked_now, most_for}
use Rattle.gateway_state.specs.Gateway.{Gateway}
use Rattle.gateway_state.specs.Interest.{is_for, minor_of, wanted_for}
use Rattle.gateway_state.specs.Notices.{cancelled, forgotten, interest_notices, link_told, next_sub_id, notices_between, read_told, subject_notices, subscribed, with_subscription_of, without_read}
use Rattle.gateway_state.specs.Resolution.{rights_left}
use Rattle.gateway_state.specs.Rights.{lead_in, link_rights}
use Rattle.gateway_state.specs.Telling.{marked, outgoing, outgoing_upstream, sent}
use Rattle.gateway_state.specs.Updates.{is_paused, takes_updates, update_told, with_owed_of}
use Rattle.gateway_state.specs.Variables.{link_of, without_cached}
use Rattle.touched_rows.proofs.Blanked.{found_blanked}
use Rattle.touched_rows.proofs.Connections.{HasNoMoreRoom, no_more_room_given, no_more_room_marked, takes}
use Rattle.touched_rows.proofs.HeldRows.{less_told}
use Rattle.touched_rows.proofs.LessGiven.{GivesNoMore, bare, gives_no_more, gives_the_same}

-- ---- messages

pub less_taking : (w : Gateway) (connections : List Connection) → ((number : ℕ) → takes w.limits connections number ≡ true → takes w.limits w.connections number ≡ true)
    → GivesNoMore w (record w { connections = connections })
less_taking w connections room = record {
  channels = λ session sid. refl;
  rights = λ c. refl;
  links = λ name. refl;
  values = λ cid native dtype count none. none;
  sessions = λ number open_to.
      let parts = and_parts (not (is_paused w number)) (takes w.limits connections number) open_to in
      and_from (not (is_paused w number)) (takes w.limits w.connections number) parts.0 (room number parts.1);
}

pub less_connections : (w : Gateway) (connections : List Connection) → HasNoMoreRoom w.connections connections → GivesNoMore w (record w { connections = connections })
less_connections w connections room = less_taking w connections (room w.limits)

pub less_sent : (dest : Dest) (out : Out) (w : Gateway) → GivesNoMore w (sent dest out w)
unfolding sent
less_sent dest out w = less_connections w (change_first (is_to dest) (given (most_for w.limits dest) out) w.connections) (no_more_room_given (most_for w.limits dest) dest out w.connections)

pub less_marked : (dest : Dest) (w : Gateway) → GivesNoMore w (marked dest w)
less_marked dest w = less_connections w (change_first (is_to dest) marked_now w.connections) (no_more_room_marked dest w.connections)

-- a message after a change
less_then_sent : (w x : Gateway) (dest : Dest) (out : Out) → GivesNoMore w x → GivesNoMore w (sent dest out x)
less_then_sent w x dest out less = gives_no_more w x (sent dest out x) less (less_sent dest out x)

-- ---- reads and subscriptions

-- which reads wait, what subscriptions are owed, and the next numbers
pub less_beside : (w : Gateway) (subs : List ClientSub) (reads : List WaitingRead) (counters : Counters)
    → GivesNoMore w (record w { clients = record w.clients { subs = subs; reads = reads }; upstream = record w.upstream { counters = counters } })
less_beside w subs reads counters = record {
  channels = λ session sid. refl;
  rights = λ c. refl;
  links = λ name. refl;
  values = λ cid native dtype count none. none;
  sessions = λ number open_to. open_to;
}

pub less_read_removed : (read : WaitingRead) (w : Gateway) → GivesNoMore w (without_read read w)
less_read_removed read w = less_beside w w.clients.subs (remove_first (same_read read) w.clients.reads) w.upstream.counters

pub less_owed : (session id : ℕ) (owed : Bool) (w : Gateway) → GivesNoMore w (with_owed_of session id owed w)
less_owed session id owed w = less_beside w (change_first (is_sub session id) (with_owed owed) w.clients.subs) w.clients.reads w.upstream.counters

pub less_read_told : (w : Gateway) (notice : ReadNotice) → GivesNoMore w (read_told w notice)
less_read_told w (Refused read code) =
    less_then_sent w (without_read read w) (ToSession read.session) (outgoing (replies.ReadNotifyRefused read.ioid read.dtype read.count code)) (less_read_removed read w)
less_read_told w (Answered read count payload) =
    less_then_sent w (without_read read w) (ToSession read.session) (outgoing (replies.ReadNotify read.ioid read.dtype count payload)) (less_read_removed read w)

pub less_reads_told : (notices : List ReadNotice) (w : Gateway) → GivesNoMore w (fold read_told w notices)
less_reads_told [] w = gives_the_same w
less_reads_told (notice ∷ notices) w =
    gives_no_more w (read_told w notice) (fold read_told (read_told w notice) notices) (less_read_told w notice) (less_reads_told notices (read_told w notice))

pub less_update_told : (w : Gateway) (notice : UpdateNotice) → GivesNoMore w (update_told w notice)
less_update_told w notice =
    let served : Gateway = with_owed_of notice.session notice.id false w in
    let said : Out = outgoing (replies.Update notice.id notice.dtype notice.count notice.payload) in
    elim (takes_updates w notice.session) as (λ t. GivesNoMore w (cond t (sent (ToSession notice.session) said served) w))
    [ true ↦ less_then_sent w served (ToSession notice.session) said (less_owed notice.session notice.id false w) | false ↦ gives_the_same w ]

-- ---- links

-- the link that is found is the same but for its subscriptions
found_bare : (subject : Subject) (name : List ℕ) (test : LinkRow → Bool) (sub : Option Subscription) (links : List LinkRow)
    → option_map bare (find (is_named name) (change_first test (with_subscription subject sub) links)) ≡ option_map bare (find (is_named name) links)
found_bare subject name test sub links = found_blanked bare (with_subscription subject sub) (λ link. refl) test (is_named name) (λ link. refl) links

pub rights_bare : (found : Option LinkRow) → link_rights found ≡ link_rights (option_map bare found)
rights_bare None = refl
rights_bare (Some link) = refl

pub less_subscription : (subject : Subject) (server cid : ℕ) (sub : Option Subscription) (w : Gateway) → GivesNoMore w (with_subscription_of subject server cid sub w)
less_subscription subject server cid sub w = record {
  channels = λ session sid. refl;
  rights = λ c.
      let links : List LinkRow = change_first (is_link server cid) (with_subscription subject sub) w.upstream.links in
      let same : link_rights (find (is_named c.real) links) ≡ link_rights (link_of w c.real) =
      rights_bare (find (is_named c.real) links) ∙ ap link_rights (found_bare subject c.real (is_link server cid) sub w.upstream.links) ∙ sym (rights_bare (link_of w c.real)) in
      ap (λ (rights : ℕ). bit_and rights (rights_left w.policy (lead_in w c.session c.asked))) same;
  links = λ name. found_bare subject name (is_link server cid) sub w.upstream.links;
  values = λ cid native dtype count none. none;
  sessions = λ number open_to. open_to;
}

-- without a link's last message none is found, and the others are found as before
pub none_left : (cid : ℕ) (rows : List LastMessage) → find (is_cached_of cid) (filter (is_cached_elsewhere cid) rows) ≡ None
none_left cid [] = refl
none_left cid (row ∷ rows) =
    elim (is_cached_of cid row) as (λ t. is_cached_of cid row ≡ t → find (is_cached_of cid) (cond (not t) (row ∷ filter (is_cached_elsewhere cid) rows) (filter (is_cached_elsewhere cid) rows)) ≡ None)
    [ true ↦ λ is. none_left cid rows | false ↦ λ is. rw is (none_left cid rows) ] refl

pub found_elsewhere : (cid other : ℕ) (rows : List LastMessage) → eqb cid other ≡ false → find (is_cached_of cid) (filter (is_cached_elsewhere other) rows) ≡ find (is_cached_of cid) rows
found_elsewhere cid other [] differ = refl
found_elsewhere cid other (row ∷ rows) differ = by (is_cached_of other row) refl (found_elsewhere cid other rows differ)
  where
    by : (is : Bool) → is_cached_of other row ≡ is → find (is_cached_of cid) (filter (is_cached_elsewhere other) rows) ≡ find (is_cached_of cid) rows
        → find (is_cached_of cid) (cond (not is) (row ∷ filter (is_cached_elsewhere other) rows) (filter (is_cached_elsewhere other) rows)) ≡ find (is_cached_of cid) (row ∷ rows)
    by true is rest =
        let here : row.cid ≡ other = eqb-true row.cid other is in
        let not_this : is_cached_of cid row ≡ false = elim (is_cached_of cid row) as (λ t. is_cached_of cid row ≡ t → t ≡ false) [
          | true ↦ λ e. let there : row.cid ≡ cid = eqb-true row.cid cid e in absurd (true≢false (sym (eq-eqb cid other (sym there ∙ here)) ∙ differ))
          | false ↦ λ e. refl
        ] refl in
        rest ∙ sym (ap (λ (t : Bool). cond t (Some row) (find (is_cached_of cid) rows)) not_this)
    by false is rest = ap (λ (found : Option LastMessage). cond (is_cached_of cid row) (Some row) found) rest

pub less_without_cached : (cid : ℕ) (w : Gateway) → GivesNoMore w (without_cached cid w)
less_without_cached cid w = record {
  channels = λ session sid. refl;
  rights = λ c. refl;
  links = λ name. refl;
  values = λ of native dtype count none.
      elim (eqb of cid) as (λ t. eqb of cid ≡ t → cached_as native dtype count (find (is_cached_of of) (filter (is_cached_elsewhere cid) w.cache)) ≡ None) [
        | true ↦ λ is.
            let same : of ≡ cid = eqb-true of cid is in
            ap (cached_as native dtype count)
            (ap (λ (n : ℕ). find (is_cached_of n) (filter (is_cached_elsewhere cid) w.cache)) same ∙ none_left cid w.cache)
        | false ↦ λ is. ap (cached_as native dtype count) (found_elsewhere of cid w.cache is) ∙ none
      ] refl;
  sessions = λ number open_to. open_to;
}

-- without what a link was told of a subject
pub less_forgotten : (subject : Subject) (cid : ℕ) (w : Gateway) → GivesNoMore w (forgotten subject cid w)
less_forgotten Values cid w = less_without_cached cid w
less_forgotten Properties cid w = record {
  channels = λ session sid. refl;
  rights = λ c. refl;
  links = λ name. refl;
  values = λ of native dtype count none. less_told cid of native dtype count w.cache none;
  sessions = λ number open_to. open_to;
}

-- the notice drops no link
abbrev pub keeps_links : LinkNotice → Bool
keeps_links (Cancelled subject server cid sid dtype sub) = true
keeps_links (Unread subject cid) = true
keeps_links (Subscribed subject server cid sid dtype want asked) = true
keeps_links (Dropped server cid state) = false

pub less_link_told : (w : Gateway) (notice : LinkNotice) → keeps_links notice ≡ true → GivesNoMore w (link_told w notice)
less_link_told w (Cancelled subject server cid sid dtype sub) keeps =
    less_then_sent w (with_subscription_of subject server cid None w) (Upstream server) (outgoing_upstream (requests.EventCancel sid sub.id dtype sub.sent)) (less_subscription subject server cid None w)
less_link_told w (Unread subject cid) keeps = less_forgotten subject cid w
less_link_told w (Subscribed subject server cid sid dtype want asked) keeps =
    let id : ℕ = next_sub_id w server in
    let sub : Option Subscription = Some (record { id = id; mask = want.mask; count = want.count; sent = asked }) in
    let counters : Counters = given_out CountsSubscriptions w.limits.reuses_numbers id w.upstream.counters in
    let counted : Gateway = record w { upstream = record w.upstream { counters = counters } } in
    less_then_sent w (with_subscription_of subject server cid sub counted) (Upstream server) (outgoing_upstream (requests.EventAdd sid id dtype asked want.mask))
    (gives_no_more w counted (with_subscription_of subject server cid sub counted)
    (less_beside w w.clients.subs w.clients.reads counters) (less_subscription subject server cid sub counted))
less_link_told w (Dropped server cid state) keeps = absurd (true≢false (sym keeps))

pub less_links_told : (notices : List LinkNotice) (w : Gateway) → list_all keeps_links notices ≡ true → GivesNoMore w (fold link_told w notices)
less_links_told [] w keep = gives_the_same w
less_links_told (notice ∷ notices) w keep =
    let parts = and_parts (keeps_links notice) (list_all keeps_links notices) keep in
    gives_no_more w (link_told w notice) (fold link_told (link_told w notice) notices) (less_link_told w notice parts.0) (less_links_told notices (link_told w notice) parts.1)

cancelled_keeps : (subject : Subject) (link : LinkRow) (sid dtype : ℕ) (sub : Option Subscription) → list_all keeps_links (cancelled subject link sid dtype sub) ≡ true
cancelled_keeps subject link sid dtype None = refl
cancelled_keeps subject link sid dtype (Some sub) = refl

subscribed_keeps : (subject : Subject) (minor : ℕ) (link : LinkRow) (sid dtype native : ℕ) (want : Option Want) → list_all keeps_links (subscribed subject minor link sid dtype native want) ≡ true
subscribed_keeps subject minor link sid dtype native None = refl
subscribed_keeps subject minor link sid dtype native (Some want) = refl

notices_keep : (subject : Subject) (minor : ℕ) (link : LinkRow) (sid dtype native : ℕ) (want : Option Want) (sub : Option Subscription)
    → list_all keeps_links (notices_between subject minor link sid dtype native want sub) ≡ true
notices_keep subject minor link sid dtype native want sub =
    let both : list_all keeps_links (cancelled subject link sid dtype sub ++ subscribed subject minor link sid dtype native want) ≡ true =
    list_all-append keeps_links (cancelled subject link sid dtype sub) (subscribed subject minor link sid dtype native want)
    ∙ rw (cancelled_keeps subject link sid dtype sub, subscribed_keeps subject minor link sid dtype native want) refl in
    elim (is_for want sub) as (λ t. list_all keeps_links (cond t [] (cancelled subject link sid dtype sub ++ subscribed subject minor link sid dtype native want)) ≡ true)
    [ true ↦ refl | false ↦ both ]

subject_keeps : (subject : Subject) (w : Gateway) (link : LinkRow) (sid dtype native : ℕ) → list_all keeps_links (subject_notices subject w link sid dtype native) ≡ true
subject_keeps subject w link sid dtype native =
    notices_keep subject (minor_of w link.server) link sid dtype native (wanted_for subject w link.name dtype native) (sub_at subject link.subscriptions)

-- what a link is told because of what its readers want drops none
pub interest_keeps : (w : Gateway) (link : LinkRow) (state : LinkState) → list_all keeps_links (interest_notices w link state) ≡ true
interest_keeps w link Creating = refl
interest_keeps w link Unusable = refl
interest_keeps w link (Connected sid dtype native) =
    list_all-append keeps_links (subject_notices Values w link sid dtype native) (subject_notices Properties w link sid dtype native)
    ∙ rw (subject_keeps Values w link sid dtype native, subject_keeps Properties w link sid dtype native) refl
