-- What others are owed after an event about channels, links and waiting reads. Each pass makes its list
-- of notices from the rows as the pass begins, and then gives them one by one.
use Rattle.std.specs.Prelude.{ℕ, List, [], ◌∷◌, ◌++◌, filter, filter_map, flat_map, Bool, true, false, not, ◌&&◌, ◌==◌, if◌then◌else◌, Option, Some, None}
use Rattle.std.specs.List.{fold}
use Rattle.rows.specs.Rows.{change_first, remove_first}
use Rattle.ca_message.specs.declared.codes.TheConstants.{ECA_NORDACCESS}
use Rattle.ca_message.specs.declared.to_client.ToClient.TheVariants as replies
use Rattle.ca_message.specs.declared.to_server.ToServer.TheVariants as requests
use Rattle.named_rows.specs.declared.channels.Channel.{Channel}
use Rattle.named_rows.specs.declared.channels.Reach.{Reach}
use Rattle.named_rows.specs.declared.reads.WaitingRead.{WaitingRead}
use Rattle.named_rows.specs.Channels.{is_channel, with_reach_and_rights}
use Rattle.named_rows.specs.Reads.{same_read}
use Rattle.named_rows.specs.Subs.{is_sub_on}
use Rattle.link_table.specs.declared.links.LinkRow.{LinkRow}
use Rattle.link_table.specs.declared.links.LinkState.{LinkState}
use Rattle.link_table.specs.declared.links.LinkState.TheVariants.{Creating, Connected, Unusable}
use Rattle.link_table.specs.declared.links.Subject.{Subject}
use Rattle.link_table.specs.declared.links.Subject.TheVariants.{Values, Properties}
use Rattle.link_table.specs.declared.links.Subscription.{Subscription}
use Rattle.link_table.specs.declared.counter.Counter.TheVariants.{Subscription as CountsSubscriptions}
use Rattle.link_table.specs.Counters.{given_out}
use Rattle.link_table.specs.Links.{is_link, sub_at, with_subscription}
use Rattle.link_table.specs.Numbers.{next_sub_id as next_sub_id_in}
use Rattle.mask_merge.specs.declared.want.Want.{Want}
use Rattle.gateway_state.specs.declared.cached.LastMessage.{LastMessage}
use Rattle.gateway_state.specs.declared.notice.ChannelNotice.{ChannelNotice}
use Rattle.gateway_state.specs.declared.notice.ChannelNotice.TheVariants.{Disconnected, RightsChanged}
use Rattle.gateway_state.specs.declared.notice.LinkNotice.{LinkNotice}
use Rattle.gateway_state.specs.declared.notice.LinkNotice.TheVariants.{Cancelled, Unread, Subscribed, Dropped}
use Rattle.gateway_state.specs.declared.notice.ReadNotice.{ReadNotice}
use Rattle.gateway_state.specs.declared.notice.ReadNotice.TheVariants.{Refused, Answered}
use Rattle.gateway_state.specs.Answer.{cached_value}
use Rattle.gateway_state.specs.CachedRows.{is_cached_elsewhere, is_cached_of, without_told}
use Rattle.gateway_state.specs.Clients.{without_channel}
use Rattle.gateway_state.specs.declared.reading.Given.{Given}
use Rattle.gateway_state.specs.Gateway.{Gateway}
use Rattle.gateway_state.specs.Interest.{is_for, minor_of, sent_for, wanted_for}
use Rattle.gateway_state.specs.Quantities.{Cid, Count, Dtype, Minor, ServerNumber, SessionNumber, Sid}
use Rattle.gateway_state.specs.Rights.{rights_of, may_read, is_served, channel_of}
use Rattle.gateway_state.specs.Servers.{ctrl_of, time_of, without_link}
use Rattle.gateway_state.specs.Subscribing.{unreadable_told}
use Rattle.gateway_state.specs.Telling.{told, asked}
use Rattle.gateway_state.specs.Variables.{ConnectedVariable, connected, is_wanted}

-- CHANNELS, in the order of adding, which is that of the SIDs of a session

-- a channel that is no longer served is gone; one whose rights changed is told of them
abbrev pub channel_notice : Gateway → Channel → Option ChannelNotice
channel_notice w c =
    if not (is_served w c) then Some (Disconnected c.session c.sid c.cid)
    else if c.rights_told == rights_of w c then None
    else Some (RightsChanged c.session c.sid c.cid c.reach (rights_of w c))

abbrev pub channel_notices : Gateway → List ChannelNotice
channel_notices w = filter_map (channel_notice w) w.clients.channels

abbrev pub with_reach : ℕ → ℕ → Reach → ℕ → Gateway → Gateway
with_reach session sid reach rights w = record w {
  clients = record w.clients {
    channels = change_first (is_channel session sid) (with_reach_and_rights reach rights) w.clients.channels;
  };
}

-- a channel could be read and may not be with these rights, where that is told
abbrev pub loses_reading : Gateway → ℕ → Option Channel → Bool
loses_reading w rights None = false
loses_reading w rights (Some c) = w.limits.tells_unreadable && may_read c.rights_told && not (may_read rights)

-- each subscription on the session's channel is told so, in the order of adding
abbrev pub reading_ended : SessionNumber → Sid → Bool → Gateway → Gateway
reading_ended session sid false w = w
reading_ended session sid true w = fold unreadable_told w (filter (is_sub_on session sid) w.clients.subs)

abbrev pub channel_told : Gateway → ChannelNotice → Gateway
channel_told w (Disconnected session sid cid) =
    told session (replies.ServerDisconnect cid) (without_channel session sid w)
channel_told w (RightsChanged session sid cid reach rights) =
    reading_ended session sid (loses_reading w rights (channel_of w session sid))
    (told session (replies.AccessRights cid rights) (with_reach session sid reach rights w))

abbrev pub channels_told : Gateway → Gateway
channels_told w = fold channel_told w (channel_notices w)

-- LINKS, in the order of adding, which is that of their CIDs

-- the type that a server is asked to tell a subject in, of a native type
abbrev pub type_for : Subject → ℕ → ℕ
type_for Values dtype = time_of dtype
type_for Properties dtype = ctrl_of dtype

-- the present subscription for a subject is given up
abbrev pub cancelled : Subject → LinkRow → ℕ → ℕ → Option Subscription → List LinkNotice
cancelled subject link sid dtype None = []
cancelled subject link sid dtype (Some sub) = Cancelled subject link.server link.cid sid (type_for subject dtype) sub ∷ []

-- what is wanted of a subject is asked for; with nothing wanted what it told last goes
abbrev pub subscribed : Subject → Minor → LinkRow → Sid → Dtype → Count → Option Want → List LinkNotice
subscribed subject minor link sid dtype native None = Unread subject link.cid ∷ []
subscribed subject minor link sid dtype native (Some want) =
    Subscribed subject link.server link.cid sid (type_for subject dtype) want (sent_for subject minor native want.count) ∷ []

-- what a server is owed where this is wanted of a subject, and that is its subscription
abbrev pub notices_between : Subject → Minor → LinkRow → Sid → Dtype → Count → Option Want → Option Subscription → List LinkNotice
notices_between subject minor link sid dtype native want sub =
    if is_for want sub then []
    else cancelled subject link sid dtype sub ++ subscribed subject minor link sid dtype native want

-- what the server of a connected link is owed about a subject
abbrev pub subject_notices : Subject → Gateway → LinkRow → Sid → Dtype → Count → List LinkNotice
subject_notices subject w link sid dtype native =
    notices_between subject (minor_of w link.server) link sid dtype native
    (wanted_for subject w link.name dtype native) (sub_at subject link.subscriptions)

-- about both, values first
abbrev pub interest_notices : Gateway → LinkRow → LinkState → List LinkNotice
interest_notices w link Creating = []
interest_notices w link Unusable = []
interest_notices w link (Connected sid dtype native) =
    subject_notices Values w link sid dtype native ++ subject_notices Properties w link sid dtype native

abbrev pub link_notices_of : Gateway → LinkRow → List LinkNotice
link_notices_of w link =
    interest_notices w link link.state
    ++ (if is_wanted w link.name then [] else Dropped link.server link.cid link.state ∷ [])

abbrev pub link_notices : Gateway → List LinkNotice
link_notices w = flat_map (link_notices_of w) w.upstream.links

-- the link has this subscription for a subject, or none
abbrev pub with_subscription_of : Subject → ℕ → ℕ → Option Subscription → Gateway → Gateway
with_subscription_of subject server cid sub w =
    record w { upstream = record w.upstream { links = change_first (is_link server cid) (with_subscription subject sub) w.upstream.links } }

-- the last messages without what a link was told of a subject. With its value all goes, since who wants its
-- properties wants its value too
abbrev pub forgotten_rows : Subject → ℕ → List LastMessage → List LastMessage
forgotten_rows Values cid rows = filter (is_cached_elsewhere cid) rows
forgotten_rows Properties cid rows = change_first (is_cached_of cid) without_told rows

abbrev pub forgotten : Subject → ℕ → Gateway → Gateway
forgotten subject cid w = record w { cache = forgotten_rows subject cid w.cache }

-- the ID of the next subscription to a server: one that no other subscription to it has
abbrev pub next_sub_id : Gateway → ServerNumber → ℕ
next_sub_id w server = next_sub_id_in w.limits.reuses_numbers w.config.first server w.upstream

-- a new subscription for a subject, under the next ID
abbrev pub subscribed_to : Subject → ServerNumber → Cid → Sid → Dtype → Want → Count → Gateway → Gateway
subscribed_to subject server cid sid dtype want sent w =
    let id = next_sub_id w server in
    asked server (requests.EventAdd sid id dtype sent want.mask)
    (with_subscription_of subject server cid (Some (record { id = id; mask = want.mask; count = want.count; sent = sent }))
    (record w { upstream = record w.upstream { counters = given_out CountsSubscriptions w.limits.reuses_numbers id w.upstream.counters } }))

-- a link goes; where it was connected, the server is told
abbrev pub dropped : ℕ → ℕ → LinkState → Gateway → Gateway
dropped server cid Creating w = without_link server cid w
dropped server cid Unusable w = without_link server cid w
dropped server cid (Connected sid dtype native) w =
    asked server (requests.ClearChannel sid cid) (without_link server cid w)

abbrev pub link_told : Gateway → LinkNotice → Gateway
link_told w (Cancelled subject server cid sid dtype sub) =
    asked server (requests.EventCancel sid sub.id dtype sub.sent) (with_subscription_of subject server cid None w)
link_told w (Unread subject cid) = forgotten subject cid w
link_told w (Subscribed subject server cid sid dtype want sent) = subscribed_to subject server cid sid dtype want sent w
link_told w (Dropped server cid state) = dropped server cid state w

abbrev pub links_told : Gateway → Gateway
links_told w = fold link_told w (link_notices w)

-- READS that wait, in the order of asking

-- the answer to a read, where this is given
abbrev pub answered_by : WaitingRead → Option Given → Option ReadNotice
answered_by read None = None
answered_by read (Some given) = Some (Answered read given.count given.payload)

-- the answer to a read of a variable, where it is covered
abbrev pub answered_over : Gateway → WaitingRead → Option ConnectedVariable → Option ReadNotice
answered_over w read None = None
answered_over w read (Some v) = answered_by read (cached_value w v.link.cid v.native.count read.dtype read.count)

-- what is owed about a read on a channel
abbrev pub notice_on : Gateway → WaitingRead → Option Channel → Option ReadNotice
notice_on w read None = None
notice_on w read (Some c) =
    if may_read (rights_of w c) then answered_over w read (connected w c.real) else Some (Refused read ECA_NORDACCESS)

-- a read whose channel can't be read any more is refused; one that is covered is answered
abbrev pub read_notice : Gateway → WaitingRead → Option ReadNotice
read_notice w read = notice_on w read (channel_of w read.session read.sid)

abbrev pub read_notices : Gateway → List ReadNotice
read_notices w = filter_map (read_notice w) w.clients.reads

abbrev pub without_read : WaitingRead → Gateway → Gateway
without_read read w = record w { clients = record w.clients { reads = remove_first (same_read read) w.clients.reads } }

abbrev pub read_told : Gateway → ReadNotice → Gateway
read_told w (Refused read code) =
    told read.session (replies.ReadNotifyRefused read.ioid read.dtype read.count code) (without_read read w)
read_told w (Answered read count payload) =
    told read.session (replies.ReadNotify read.ioid read.dtype count payload) (without_read read w)

abbrev pub reads_told : Gateway → Gateway
reads_told w = fold read_told w (read_notices w)
