-- What each event touches.
use Rattle.std.specs.Prelude.{◌≡◌, ℕ, List, [], ◌∷◌, ◌++◌, filter, map, ◌==◌, nat_le, is_some, if◌then◌else◌, Option, Some, None, Result, Ok, Err}
use Rattle.std.specs.List.{find}
use Rattle.ca_header.specs.declared.header.Message.{Message}
use Rattle.ca_message.specs.declared.codes.TheConstants.{ECA_NORMAL}
use Rattle.ca_message.specs.declared.reply.ReplyFault.{ReplyFault}
use Rattle.ca_message.specs.declared.reply.ServerReply.{ServerReply}
use Rattle.ca_message.specs.declared.reply.ServerReply.TheVariants as says
use Rattle.ca_message.specs.declared.request.ClientRequest.{ClientRequest}
use Rattle.ca_message.specs.declared.request.ClientRequest.TheVariants as requests
use Rattle.ca_message.specs.declared.request.RequestFault.{RequestFault}
use Rattle.ca_message.specs.ClientRequest.{request_of}
use Rattle.ca_message.specs.ServerReply.{reply_of}
use Rattle.named_rows.specs.declared.channels.Channel.{Channel}
use Rattle.named_rows.specs.declared.reads.WaitingRead.{WaitingRead}
use Rattle.channel_table.specs.declared.sessions.Session.{Session as SessionRow}
use Rattle.named_rows.specs.declared.subs.ClientSub.{ClientSub}
use Rattle.named_rows.specs.Channels.{is_channel_of}
use Rattle.channel_table.specs.ClientRows.{channel_count}
use Rattle.channel_table.specs.Sessions.{is_numbered}
use Rattle.pv_alias.specs.declared.lead.Lead.{Lead}
use Rattle.pv_search.specs.declared.search.SearchRequest.{SearchRequest}
use Rattle.rule_desk.specs.declared.policy.Policy.{Policy}
use Rattle.link_table.specs.declared.links.LinkRow.{LinkRow}
use Rattle.link_table.specs.declared.links.LinkState.{LinkState}
use Rattle.link_table.specs.declared.links.LinkState.TheVariants.{Creating, Connected, Unusable}
use Rattle.link_table.specs.declared.links.Subject.{Subject}
use Rattle.link_table.specs.declared.links.Subscription.{Subscription}
use Rattle.link_table.specs.Links.{has_subscription, is_link, is_of, sub_at}
use Rattle.gateway_state.specs.declared.event.Dest.{Dest}
use Rattle.gateway_state.specs.declared.event.Dest.TheVariants as dests
use Rattle.gateway_state.specs.declared.event.Event.{Event}
use Rattle.gateway_state.specs.declared.event.Event.TheVariants as events
use Rattle.gateway_state.specs.declared.search.RememberedSearch.{RememberedSearch}
use Rattle.gateway_state.specs.declared.notice.ReadVerdict.{ReadVerdict}
use Rattle.gateway_state.specs.declared.notice.ReadVerdict.TheVariants as reads
use Rattle.gateway_state.specs.declared.notice.SubVerdict.{SubVerdict}
use Rattle.gateway_state.specs.declared.notice.SubVerdict.TheVariants as subs
use Rattle.gateway_state.specs.Asked.{acts}
use Rattle.gateway_state.specs.Clients.{read_verdict, search_left_by}
use Rattle.gateway_state.specs.Gateway.{Gateway}
use Rattle.gateway_state.specs.Quantities.{Code, Count, Dtype, Ioid, ServerNumber, SessionNumber, Sid, SubId}
use Rattle.gateway_state.specs.Requests.{search_in}
use Rattle.gateway_state.specs.Resolution.{lead_of}
use Rattle.gateway_state.specs.Rights.{channel_of, lead_in}
use Rattle.gateway_state.specs.Searches.{is_stale, left_by_search}
use Rattle.gateway_state.specs.Servers.{concerned_owed, is_heard, subject_of}
use Rattle.gateway_state.specs.Settled.{HasLinksApart, HasSubsApart}
use Rattle.gateway_state.specs.Step.{consequences}
use Rattle.gateway_state.specs.Subscribing.{is_on_sid, new_sub, sub_of, sub_verdict}
use Rattle.gateway_state.specs.Told.{KnowRights}
use Rattle.gateway_state.specs.Updates.{takes_updates}
use Rattle.gateway_state.specs.Variables.{ConnectedVariable, channel_names, connected, is_connected, is_creating, search_names}
use Rattle.touched_rows.specs.declared.touched.Touched.{Touched}
use Rattle.touched_rows.specs.declared.touched.Touched.TheVariants.{All, Gone, Nothing, Session, Variable, Value, Interest, Link as LinkOf, Links, Read, Subscription as SubscriptionTo}
use Rattle.touched_rows.specs.Concern.{concern_of, passes}
use Rattle.touched_rows.specs.Touched.{channels_gone_on, channels_told_on, interest_told, link_told_on, links_told_among, one_read_told, one_update_told, reads_told_on, updates_told_on, updates_told_to, variable_told}

-- what follows where no more than this was touched
abbrev pub consequences_of : Touched → Gateway → Gateway
consequences_of All w = consequences w
consequences_of Nothing w = w
consequences_of (Session number) w = updates_told_to number w
consequences_of (Variable name) w = variable_told name w
consequences_of (Value name concern) w = updates_told_on name (reads_told_on name w)
consequences_of (Interest name) w = interest_told name w
consequences_of (LinkOf name) w = link_told_on name w
consequences_of (Links names) w = links_told_among names w
consequences_of (Gone names) w = channels_gone_on names w
consequences_of (Read name read) w = one_read_told read (interest_told name w)
consequences_of (SubscriptionTo name sub) w = one_update_told sub (interest_told name w)

abbrev pub with_read : WaitingRead → Gateway → Gateway
with_read read w = record w { clients = record w.clients { reads = w.clients.reads ++ read ∷ [] } }

-- a read that is touched isn't kept yet, since most are answered at once, nor is an update owed yet to those whom it
-- concerns: the rows are those with it, or where they are owed it
abbrev pub with_touched : Touched → Gateway → Gateway
with_touched (Read name read) w = with_read read w
with_touched (Value name concern) w = concerned_owed name (passes concern) w
with_touched touched w = w

-- clients know their rights, and no name has two links
pub record AreReady (w : Gateway) : Type 0 where
  pub told : KnowRights w
  pub apart : HasLinksApart w

-- clients know their rights, and no session has two subscriptions under one ID
pub record AreReadyForValue (w : Gateway) : Type 0 where
  pub told : KnowRights w
  pub apart : HasSubsApart w

-- what tells these alone rests on that clients know their rights; where all was touched, it tells them
-- first, and where a variable was, those who have channels on it. That channels are gone rests on nothing.
-- The links of several names are found by them, and whoever is owed an update by its session and ID
abbrev pub IsReady : Touched → Gateway → Type 0
IsReady All w = Unit {0}
IsReady Nothing w = Unit {0}
IsReady (Session number) w = KnowRights w
IsReady (Variable name) w = KnowRights (channels_told_on name w)
IsReady (Value name concern) w = AreReadyForValue w
IsReady (Interest name) w = KnowRights w
IsReady (LinkOf name) w = KnowRights w
IsReady (Links names) w = AreReady w
IsReady (Gone names) w = Unit {0}
IsReady (Read name read) w = KnowRights w
IsReady (SubscriptionTo name sub) w = KnowRights w

-- CLIENTS' MESSAGES

abbrev pub new_read : SessionNumber → Sid → Ioid → Dtype → Count → WaitingRead
new_read number sid ioid dtype count = record { session = number; sid = sid; dtype = dtype; count = count; ioid = ioid }

-- a read that is accepted
abbrev pub accepted_touches : WaitingRead → Option Channel → Touched
accepted_touches read None = Nothing
accepted_touches read (Some c) = Read c.real read

abbrev pub read_touches_by : WaitingRead → Option Channel → ReadVerdict → Touched
read_touches_by read on reads.NoChannel = Nothing
read_touches_by read on reads.Ignored = Nothing
read_touches_by read on (reads.Refused code) = Nothing
read_touches_by read on (reads.Accepted reach rights) = accepted_touches read on

abbrev pub read_touches : Gateway → WaitingRead → Touched
read_touches w read =
    read_touches_by read (channel_of w read.session read.sid) (read_verdict w read.session read.sid read.dtype read.count)

-- a subscription that is made
abbrev pub made_touches : ClientSub → Option Channel → Touched
made_touches sub None = Nothing
made_touches sub (Some c) = SubscriptionTo c.real sub

abbrev pub sub_touches_by : ClientSub → Option Channel → SubVerdict → Touched
sub_touches_by sub on subs.NoChannel = Nothing
sub_touches_by sub on subs.Ignored = Nothing
sub_touches_by sub on (subs.Refused cid code) = Nothing
sub_touches_by sub on subs.Accepted = made_touches sub on

abbrev pub sub_touches : Gateway → ClientSub → Touched
sub_touches w sub = sub_touches_by sub (channel_of w sub.session sub.sid) (sub_verdict w sub)

abbrev pub cancel_touches_by : ℕ → Option ClientSub → Option Channel → Touched
cancel_touches_by sid sub None = Nothing
cancel_touches_by sid sub (Some c) = if is_on_sid sid sub then Interest c.real else Nothing

-- a subscription that is given up
abbrev pub cancel_touches : Gateway → ℕ → ℕ → ℕ → Touched
cancel_touches w number sid id = cancel_touches_by sid (sub_of w number id) (channel_of w number sid)

abbrev pub clear_touches_by : Option Channel → Touched
clear_touches_by None = Nothing
clear_touches_by (Some c) = LinkOf c.real

-- a channel that is given up
abbrev pub clear_touches : Gateway → ℕ → ℕ → Touched
clear_touches w number sid = clear_touches_by (channel_of w number sid)

-- a search that goes: its name may have been wanted by it alone
abbrev pub left_touches : Policy → Option RememberedSearch → Touched
left_touches policy None = Nothing
left_touches policy (Some row) = Links (search_names policy (row ∷ []))

-- the search that goes for one that a session's host makes
abbrev pub search_left_for : Option SessionRow → List ℕ → Gateway → Option RememberedSearch
search_left_for None name w = None
search_left_for (Some row) name w = left_by_search w.limits row.host name w.searches

abbrev pub create_touches_over : Gateway → Option SessionRow → List ℕ → Option ConnectedVariable → Touched
create_touches_over w session name None = left_touches w.policy (search_left_for session name w)
create_touches_over w session name (Some v) = left_touches w.policy (search_left_by session name w)

abbrev pub create_touches_as : Gateway → ℕ → List ℕ → Option Lead → Touched
create_touches_as w number name None = Nothing
create_touches_as w number name (Some lead) =
    if nat_le w.limits.channels (channel_count number w.clients) then Nothing
    else create_touches_over w (find (is_numbered number) w.clients.sessions) name (connected w lead.real)

-- a channel that a client asks for concerns nobody else, but that a search may go
abbrev pub create_touches : Gateway → ℕ → List ℕ → Touched
create_touches w number name = create_touches_as w number name (lead_in w number name)

abbrev pub seek_touches_as : Gateway → ℕ → List ℕ → Option Lead → Touched
seek_touches_as w number name None = Nothing
seek_touches_as w number name (Some lead) =
    left_touches w.policy (search_left_for (find (is_numbered number) w.clients.sessions) name w)

-- nor does a name that a client seeks on its connection
abbrev pub seek_touches : Gateway → ℕ → List ℕ → Touched
seek_touches w number name = seek_touches_as w number name (lead_in w number name)

-- a host is fixed once a session has a channel, so another one leads no channel's name elsewhere
abbrev pub request_touches : Gateway → ℕ → Result ClientRequest RequestFault → Touched
request_touches w number (Ok (requests.Version minor)) = Nothing
request_touches w number (Ok (requests.EventAdd add)) =
    sub_touches w (new_sub number add.sid add.id add.dtype add.count add.mask)
request_touches w number (Ok (requests.EventCancel cancel)) = cancel_touches w number cancel.sid cancel.id
request_touches w number (Ok (requests.Write write)) = Nothing
request_touches w number (Ok requests.EventsOff) = Nothing
request_touches w number (Ok requests.EventsOn) = Session number
request_touches w number (Ok (requests.ClearChannel clear)) = clear_touches w number clear.sid
request_touches w number (Ok (requests.ReadNotify read)) =
    read_touches w (new_read number read.sid read.ioid read.dtype read.count)
request_touches w number (Ok (requests.CreateChannel create)) = create_touches w number create.name
request_touches w number (Ok (requests.WriteNotify write)) = Nothing
request_touches w number (Ok (requests.ClientName name)) = Nothing
request_touches w number (Ok (requests.HostName host)) = Nothing
request_touches w number (Ok requests.Echo) = Nothing
request_touches w number (Err fault) = Nothing

abbrev pub said_touches : Gateway → ℕ → Message → Option SearchRequest → Touched
said_touches w number message None = request_touches w number (request_of message.head message.payload)
said_touches w number message (Some search) = seek_touches w number search.name

abbrev pub client_touches : Gateway → ℕ → Message → Touched
client_touches w number message = said_touches w number message (search_in w message)

-- SERVERS' MESSAGES

-- whatever the subject, what counts may answer reads of the variable and is told to those whom it concerns
abbrev pub value_touches : Gateway → Subject → LinkRow → LinkState → Option Subscription → Dtype → Count → List ℕ → Touched
value_touches w subject link (Connected sid native native_count) (Some sub) dtype count payload =
    if is_heard subject native sub.count dtype count payload
    then Value link.name (concern_of subject w link.cid dtype count payload)
    else Nothing
value_touches w subject link (Connected sid native native_count) None dtype count payload = Nothing
value_touches w subject link Creating sub dtype count payload = Nothing
value_touches w subject link Unusable sub dtype count payload = Nothing

abbrev pub update_touches_under : Gateway → Subject → Code → Dtype → Count → List ℕ → LinkRow → Touched
update_touches_under w subject status dtype count payload link =
    if status == ECA_NORMAL
    then value_touches w subject link link.state (sub_at subject link.subscriptions) dtype count payload
    else Nothing

abbrev pub update_touches_over : Gateway → SubId → Code → Dtype → Count → List ℕ → Option LinkRow → Touched
update_touches_over w id status dtype count payload None = Nothing
update_touches_over w id status dtype count payload (Some link) =
    update_touches_under w (subject_of id link) status dtype count payload link

-- an update that counts
abbrev pub update_touches : Gateway → ServerNumber → SubId → Code → Dtype → Count → List ℕ → Touched
update_touches w server id status dtype count payload =
    update_touches_over w id status dtype count payload (find (has_subscription server id) w.upstream.links)

abbrev pub created_touches_over : Option LinkRow → Touched
created_touches_over None = Nothing
created_touches_over (Some link) = if is_creating link.state then Interest link.name else Nothing

-- a channel that a server was asked for, and that it made or can't offer in a usable type
abbrev pub created_touches : Gateway → ℕ → ℕ → Touched
created_touches w server cid = created_touches_over (find (is_link server cid) w.upstream.links)

abbrev pub rights_touches_over : Option LinkRow → Touched
rights_touches_over None = Nothing
rights_touches_over (Some link) = if is_creating link.state then Interest link.name else Variable link.name

-- rights on such a channel; those on a channel that is there concern all who use it
abbrev pub rights_touches : Gateway → ℕ → ℕ → Touched
rights_touches w server cid = rights_touches_over (find (is_link server cid) w.upstream.links)

abbrev pub gone_touches_over : Option LinkRow → Touched
gone_touches_over None = Nothing
gone_touches_over (Some link) = if is_connected link.state then Variable link.name else Nothing

-- a channel that a server drops concerns all who use it, where it was connected
abbrev pub gone_touches : Gateway → ℕ → ℕ → Touched
gone_touches w server cid = gone_touches_over (find (is_link server cid) w.upstream.links)

abbrev pub reply_touches : Gateway → ℕ → Result ServerReply ReplyFault → Touched
reply_touches w server (Ok (says.Version minor)) = Nothing
reply_touches w server (Ok (says.EventAdd id status dtype count value)) = update_touches w server id status dtype count value
reply_touches w server (Ok (says.CreateChannel cid sid dtype count)) = created_touches w server cid
reply_touches w server (Ok (says.WriteNotify ioid status)) = Nothing
reply_touches w server (Ok (says.AccessRights cid rights)) = rights_touches w server cid
reply_touches w server (Ok (says.CreateChannelFail cid)) = Nothing
reply_touches w server (Ok (says.ServerDisconnect cid)) = gone_touches w server cid
reply_touches w server (Err fault) = Nothing

-- EVENTS

-- an outbox that took updates before makes room for none that was held back
abbrev pub drain_touches : Gateway → Dest → Touched
drain_touches w (dests.Session number) = if takes_updates w number then Nothing else Session number
drain_touches w (dests.Upstream number) = Nothing

-- a search that is remembered, for which another may go
abbrev pub searched_touches : Gateway → List ℕ → List ℕ → Touched
searched_touches w host name =
    if is_some (lead_of w.policy host name) then left_touches w.policy (left_by_search w.limits host name w.searches)
    else Nothing

-- the variables of a session's channels, in the order of adding
abbrev pub names_of : Gateway → ℕ → List (List ℕ)
names_of w number = channel_names (filter (is_channel_of number) w.clients.channels)

abbrev pub link_names : List LinkRow → List (List ℕ)
link_names links = map (λ (link : LinkRow). link.name) links

-- the variables of a server's links, in the order of links
abbrev pub server_names : Gateway → ℕ → List (List ℕ)
server_names w number = link_names (filter (is_of number) w.upstream.links)

abbrev pub event_touches : Gateway → Event → Touched
event_touches w (events.Opened number host) = Nothing
event_touches w (events.Lost number) = Links (names_of w number)
event_touches w (events.Client number message) =
    if acts w (dests.Session number) then client_touches w number message else Nothing
event_touches w (events.UpOpened number) = Nothing
event_touches w (events.UpLost number) = Gone (server_names w number)
event_touches w (events.Server number message) =
    if acts w (dests.Upstream number) then reply_touches w number (reply_of message.head message.payload) else Nothing
event_touches w (events.Found name number) = Nothing
event_touches w (events.Search host name) = searched_touches w host name
event_touches w events.Sweep = Links (search_names w.policy w.searches)
event_touches w (events.Edit policy) = All
event_touches w (events.Drain dest count) = drain_touches w dest
event_touches w (events.Limit limits) = All
event_touches w events.Age = Links (search_names w.policy (filter is_stale w.searches))
event_touches w (events.Probe number) = Nothing
event_touches w (events.Seek number cid name) = if acts w (dests.Session number) then seek_touches w number name else Nothing
