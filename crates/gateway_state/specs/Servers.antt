-- What servers' messages do.
use Rattle.std.specs.Prelude.{ℕ, ◌+◌, List, [], ◌∷◌, ◌++◌, length, filter, Bool, true, false, ◌==◌, ◌&&◌, nat_lt, nat_le, is_ok, is_some, if◌then◌else◌, Option, Some, None, Result, Ok, Err}
use Rattle.std.specs.List.{find, fold}
use Rattle.rows.specs.Rows.{change_first, remove_first}
use Rattle.ca_header.specs.declared.header.Message.{Message}
use Rattle.ca_message.specs.declared.codes.TheConstants.{ECA_NORMAL, ECA_GETFAIL}
use Rattle.ca_message.specs.declared.reply.ReplyFault.{ReplyFault}
use Rattle.ca_message.specs.declared.reply.ServerReply.{ServerReply}
use Rattle.ca_message.specs.declared.reply.ServerReply.TheVariants as says
use Rattle.ca_message.specs.declared.to_client.ToClient.TheVariants as replies
use Rattle.ca_message.specs.declared.to_server.ToServer.TheVariants as requests
use Rattle.ca_message.specs.ServerReply.{reply_of}
use Rattle.named_rows.specs.declared.reads.WaitingRead.{WaitingRead}
use Rattle.named_rows.specs.declared.subs.ClientSub.{ClientSub}
use Rattle.named_rows.specs.Reads.{same_read}
use Rattle.dbr_layout.specs.Dbr.{dbr_of}
use Rattle.dbr_layout.specs.declared.fault.LayoutFault.{LayoutFault}
use Rattle.dbr_layout.specs.View.{Shown, shown}
use Rattle.value_cache.specs.Held.{Held, with_properties, with_value}
use Rattle.link_table.specs.declared.links.LinkRow.{LinkRow}
use Rattle.link_table.specs.declared.links.LinkState.{LinkState}
use Rattle.link_table.specs.declared.links.LinkState.TheVariants.{Creating, Connected, Unusable}
use Rattle.link_table.specs.declared.links.Subject.{Subject}
use Rattle.link_table.specs.declared.links.Subject.TheVariants.{Values, Properties}
use Rattle.link_table.specs.declared.links.Subscription.{Subscription}
use Rattle.mask_merge.specs.declared.want.TheConstants.{PROPERTY_EVENT}
use Rattle.link_table.specs.declared.counter.Counter.TheVariants.{Cid as CountsCids}
use Rattle.link_table.specs.Counters.{given_out}
use Rattle.link_table.specs.Links.{is_link, is_not_link, has_id, has_subscription, new_link, sub_at, with_state}
use Rattle.link_table.specs.Numbers.{next_cid as next_cid_in}
use Rattle.link_table.specs.Servers.{is_server, with_minor}
use Rattle.gateway_state.specs.declared.reading.Native.{Native}
use Rattle.gateway_state.specs.declared.event.Dest.TheVariants as dests
use Rattle.gateway_state.specs.declared.interest.TheConstants.{CTRL_FORM, PLAIN_TYPES, TIME_FORM}
use Rattle.gateway_state.specs.Answer.{fits_payload, native_in, needs_by_number}
use Rattle.gateway_state.specs.Asked.{acts}
use Rattle.gateway_state.specs.CachedRows.{put_row}
use Rattle.gateway_state.specs.Gateway.{Gateway}
use Rattle.gateway_state.specs.Quantities.{Cid, Code, Count, Dtype, ServerNumber, Sid, SubId}
use Rattle.gateway_state.specs.Telling.{told, asked}
use Rattle.gateway_state.specs.Updates.{alarm_differs_in, asks_for, concerned, held_by, is_concerned, owed_to_all}
use Rattle.channel_table.specs.ClientRows as client_rows
use Rattle.gateway_state.specs.Variables.{is_missing, is_creating, without_cached}
use Rattle.gateway_state.specs.Writing.{write_ended}

-- FOUND

-- the number of the next link: one that no other link has
abbrev pub next_cid : Gateway → ℕ
next_cid w = next_cid_in w.limits.reuses_numbers w.config.first w.upstream

-- with a new link, for which a channel is asked of the server
abbrev pub linked : Gateway → ℕ → List ℕ → Gateway
linked w server name =
    asked server (requests.CreateChannel (next_cid w) name)
    (record w {
      upstream = record w.upstream {
        links = w.upstream.links ++ new_link server (next_cid w) name ∷ [];
        counters = given_out CountsCids w.limits.reuses_numbers (next_cid w) w.upstream.counters;
      };
    })

-- a server has a variable: it is asked for a channel, where the name is asked for, the server can be
-- told, and a link has room
abbrev pub found : Gateway → List ℕ → ℕ → Gateway
found w name server =
    if is_missing w name && acts w (dests.Upstream server) && nat_lt (length w.upstream.links) w.limits.links
    then linked w server name else w

-- VERSION

abbrev pub server_versioned : Gateway → ℕ → ℕ → Gateway
server_versioned w server minor =
    record w { upstream = record w.upstream { servers = change_first (is_server server) (with_minor minor) w.upstream.servers } }

-- CREATE_CHAN

abbrev pub with_link_state : ℕ → ℕ → LinkState → ℕ → Gateway → Gateway
with_link_state server cid state rights w =
    record w { upstream = record w.upstream { links = change_first (is_link server cid) (with_state state rights) w.upstream.links } }

-- the number of a plain type's TIME form; any other number stays
abbrev pub time_of : ℕ → ℕ
time_of dtype = if nat_lt dtype PLAIN_TYPES then dtype + TIME_FORM else dtype

-- the number of a plain type's CTRL form; any other number stays
abbrev pub ctrl_of : ℕ → ℕ
ctrl_of dtype = if nat_lt dtype PLAIN_TYPES then dtype + CTRL_FORM else dtype

-- updates of such a channel can be taken: a plain type that is served, at least one element, and a
-- TIME payload that may come
abbrev pub is_usable : ℕ → ℕ → Bool
is_usable dtype count = nat_lt dtype PLAIN_TYPES && nat_lt 0 count && fits_payload (dbr_of (time_of dtype)) count

-- the gateway gives up a channel that it doesn't want
abbrev pub channel_returned : ℕ → ℕ → ℕ → Gateway → Gateway
channel_returned server sid cid w = asked server (requests.ClearChannel sid cid) w

abbrev pub answered_creating : ServerNumber → Cid → Sid → Dtype → Count → LinkRow → Gateway → Gateway
answered_creating server cid sid dtype count link w =
    if is_usable dtype count then with_link_state server cid (Connected sid dtype count) link.rights w
    else channel_returned server sid cid (with_link_state server cid Unusable link.rights w)

abbrev pub created_for : ServerNumber → Cid → Sid → Dtype → Count → Option LinkRow → Gateway → Gateway
created_for server cid sid dtype count None w = channel_returned server sid cid w
created_for server cid sid dtype count (Some link) w =
    if is_creating link.state then answered_creating server cid sid dtype count link w else w

-- the server made the channel
abbrev pub channel_made : Gateway → ServerNumber → Cid → Sid → Dtype → Count → Gateway
channel_made w server cid sid dtype count =
    created_for server cid sid dtype count (find (is_link server cid) w.upstream.links) w

-- ACCESS_RIGHTS

abbrev pub rights_given : ℕ → ℕ → ℕ → Option LinkRow → Gateway → Gateway
rights_given server cid rights None w = w
rights_given server cid rights (Some link) w = with_link_state server cid link.state rights w

abbrev pub rights_said : Gateway → ℕ → ℕ → ℕ → Gateway
rights_said w server cid rights = rights_given server cid rights (find (is_link server cid) w.upstream.links) w

-- CREATE_CH_FAIL and SERVER_DISCONN

-- without a link and its last messages
abbrev pub without_link : ℕ → ℕ → Gateway → Gateway
without_link server cid w =
    record (without_cached cid w) { upstream = record w.upstream { links = filter (is_not_link server cid) w.upstream.links } }

abbrev pub failed_for : ℕ → ℕ → Option LinkRow → Gateway → Gateway
failed_for server cid None w = w
failed_for server cid (Some link) w = if is_creating link.state then without_link server cid w else w

abbrev pub creation_refused : Gateway → ℕ → ℕ → Gateway
creation_refused w server cid = failed_for server cid (find (is_link server cid) w.upstream.links) w

abbrev pub gone_for : ℕ → ℕ → Option LinkRow → Gateway → Gateway
gone_for server cid None w = w
gone_for server cid (Some link) w = without_link server cid w

abbrev pub channel_dropped : Gateway → ℕ → ℕ → Gateway
channel_dropped w server cid = gone_for server cid (find (is_link server cid) w.upstream.links) w

-- EVENT_ADD: updates

-- the read waits for this variable
abbrev pub waits_for : Gateway → List ℕ → WaitingRead → Bool
waits_for w = client_rows.is_read_for w.clients

-- the read can't be had
abbrev pub read_failed : Gateway → WaitingRead → Gateway
read_failed w read =
    told read.session (replies.ReadNotifyRefused read.ioid read.dtype read.count ECA_GETFAIL)
    (record w { clients = record w.clients { reads = remove_first (same_read read) w.clients.reads } })

-- a read of this type of a variable can't be had where a server fails to tell a subject: without values none can,
-- without properties none that needs them
abbrev pub fails_without : Subject → Option Native → WaitingRead → Bool
fails_without Values native read = true
fails_without Properties None read = false
fails_without Properties (Some native) read = needs_by_number native.dtype read.dtype

-- none of the reads that wait for the variable and fail can be had, in the order of asking
abbrev pub reads_failed : (WaitingRead → Bool) → Gateway → List ℕ → Gateway
reads_failed fails w name = fold read_failed w (filter (λ read. waits_for w name read && fails read) w.clients.reads)

-- with what is held of a link changed
abbrev pub with_held : ℕ → ℕ → (Held → Held) → Gateway → Gateway
with_held server cid change w = record w { cache = put_row server cid change w.cache }

-- a message's payload tells properties
abbrev pub is_described_in : Result Shown LayoutFault → Bool
is_described_in (Ok seen) = is_some seen.parts.properties
is_described_in (Err fault) = false

-- an update counts as a value: its type is the native TIME type, it has no more elements than were asked for, and it
-- is long enough
abbrev pub is_value : Dtype → Count → Dtype → Count → List ℕ → Bool
is_value native asked_with dtype count payload =
    dtype == time_of native && nat_le count asked_with && is_ok (shown dtype count payload)

-- an update counts as properties: its type is the native CTRL type, it has one element or none, and it is long enough
abbrev pub is_description : ℕ → ℕ → ℕ → List ℕ → Bool
is_description native dtype count payload =
    dtype == ctrl_of native && nat_le count 1 && is_described_in (shown dtype count payload)

-- an update counts, of a variable of this native type, by the count that was asked for
abbrev pub is_heard : Subject → Dtype → Count → Dtype → Count → List ℕ → Bool
is_heard Values native asked_with dtype count payload = is_value native asked_with dtype count payload
is_heard Properties native asked_with dtype count payload = is_description native dtype count payload

-- what is held once it came
abbrev pub held_with : Subject → ℕ → ℕ → List ℕ → ℕ → Held → Held
held_with Values dtype count payload asked_with held = with_value dtype count payload asked_with held
held_with Properties dtype count payload asked_with held = with_properties dtype payload held

-- the alarm of an update differs from that of the value that is held, or none is held
abbrev pub has_other_alarm : Gateway → ℕ → ℕ → ℕ → List ℕ → Bool
has_other_alarm w cid dtype count payload = alarm_differs_in (shown dtype count payload) (held_by w cid)

-- an update concerns a subscription: a value by its events, properties one that asks for theirs
abbrev pub concerns : Subject → Gateway → ℕ → ℕ → ℕ → List ℕ → ClientSub → Bool
concerns Values w cid dtype count payload sub = is_concerned (has_other_alarm w cid dtype count payload) sub
concerns Properties w cid dtype count payload sub = asks_for PROPERTY_EVENT sub

-- each subscription to a variable that passes is owed an update
abbrev pub concerned_owed : List ℕ → (ClientSub → Bool) → Gateway → Gateway
concerned_owed name passes w = owed_to_all w (concerned w name passes)

abbrev pub updated_connected : Subject → LinkRow → Dtype → Count → Dtype → Count → List ℕ → Gateway → Gateway
updated_connected subject link native asked_with dtype count payload w =
    if is_heard subject native asked_with dtype count payload
    then with_held link.server link.cid (held_with subject dtype count payload asked_with)
    (concerned_owed link.name (concerns subject w link.cid dtype count payload) w)
    else w

abbrev pub updated_link : Subject → LinkRow → LinkState → Option Subscription → ℕ → ℕ → List ℕ → Gateway → Gateway
updated_link subject link (Connected sid native native_count) (Some sub) dtype count payload w =
    updated_connected subject link native sub.count dtype count payload w
updated_link subject link (Connected sid native native_count) None dtype count payload w = w
updated_link subject link Creating sub dtype count payload w = w
updated_link subject link Unusable sub dtype count payload w = w

-- what a server tells of a subject on a link
abbrev pub updated_under : Subject → ℕ → ℕ → ℕ → List ℕ → LinkRow → Gateway → Gateway
updated_under subject status dtype count payload link w =
    if status == ECA_NORMAL
    then updated_link subject link link.state (sub_at subject link.subscriptions) dtype count payload w
    else reads_failed (fails_without subject (native_in link.state)) w link.name

-- the subject of a link's subscription that has this ID
abbrev pub subject_of : ℕ → LinkRow → Subject
subject_of id link = if has_id id link.subscriptions.values then Values else Properties

abbrev pub updated_by : SubId → Code → Dtype → Count → List ℕ → Option LinkRow → Gateway → Gateway
updated_by id status dtype count payload None w = w
updated_by id status dtype count payload (Some link) w =
    updated_under (subject_of id link) status dtype count payload link w

-- an update under a present subscription's ID; under any other it is ignored
abbrev pub updated : Gateway → ServerNumber → SubId → Code → Dtype → Count → List ℕ → Gateway
updated w server id status dtype count payload =
    updated_by id status dtype count payload (find (has_subscription server id) w.upstream.links) w

-- what a server's message does, by what it means
abbrev pub replied : Gateway → ℕ → Result ServerReply ReplyFault → Gateway
replied w server (Ok (says.Version minor)) = server_versioned w server minor
replied w server (Ok (says.EventAdd id status dtype count value)) = updated w server id status dtype count value
replied w server (Ok (says.CreateChannel cid sid dtype count)) = channel_made w server cid sid dtype count
replied w server (Ok (says.WriteNotify ioid status)) = write_ended w server ioid status
replied w server (Ok (says.AccessRights cid rights)) = rights_said w server cid rights
replied w server (Ok (says.CreateChannelFail cid)) = creation_refused w server cid
replied w server (Ok (says.ServerDisconnect cid)) = channel_dropped w server cid
replied w server (Err fault) = w

-- a server sent a message
abbrev pub server_said : Gateway → ℕ → Message → Gateway
server_said w server message = replied w server (reply_of message.head message.payload)
