-- What clients' messages do.
use Rattle.std.specs.Prelude.{ℕ, List, [], ◌∷◌, ◌++◌, filter, map, max, bit_and, Bool, true, false, not, ◌||◌, ◌&&◌, nat_lt, nat_le, is_some, if◌then◌else◌, Option, Some, None}
use Rattle.std.specs.List.{find}
use Rattle.rows.specs.Rows.{change_first}
use Rattle.ca_header.specs.declared.header.Header.{Header}
use Rattle.ca_message.specs.declared.codes.TheConstants.{ECA_INTERNAL, ECA_BADCHID, ECA_GETFAIL}
use Rattle.ca_message.specs.declared.commands.TheConstants.{NO_CHANNEL}
use Rattle.ca_message.specs.declared.to_client.ToClient.TheVariants as replies
use Rattle.named_rows.specs.declared.channels.Channel.{Channel}
use Rattle.named_rows.specs.declared.channels.Reach.{Reach}
use Rattle.channel_table.specs.declared.sessions.Session.{Session}
use Rattle.named_rows.specs.Channels.{is_channel, is_channel_of, is_not_channel, with_reach_and_rights}
use Rattle.channel_table.specs.ClientRows.{channel_count, has_channel, read_count}
use Rattle.named_rows.specs.Reads.{is_not_read_on}
use Rattle.channel_table.specs.Sessions.{is_numbered}
use Rattle.named_rows.specs.Subs.{is_not_sub_on}
use Rattle.link_table.specs.declared.links.LinkRow.{LinkRow}
use Rattle.link_table.specs.declared.counter.Counter.TheVariants.{Sid as CountsSids}
use Rattle.link_table.specs.declared.counter.TheConstants.{LAST_NUMBER}
use Rattle.link_table.specs.Counters.{given_out, next_number}
use Rattle.link_table.specs.Writes.{is_not_write_on}
use Rattle.pv_alias.specs.declared.lead.Lead.{Lead}
use Rattle.gateway_state.specs.declared.event.Dest.TheVariants as dests
use Rattle.gateway_state.specs.declared.limits.TheConstants.{LOWEST_MINOR}
use Rattle.gateway_state.specs.Answer.{needs_by_number, refusal, meant_count, cached_value}
use Rattle.gateway_state.specs.declared.notice.ReadVerdict.{ReadVerdict}
use Rattle.gateway_state.specs.declared.notice.ReadVerdict.TheVariants.{NoChannel, Ignored, Refused, Accepted}
use Rattle.gateway_state.specs.declared.reading.Given.{Given}
use Rattle.gateway_state.specs.declared.reading.Native.{Native}
use Rattle.gateway_state.specs.Gateway.{Gateway}
use Rattle.gateway_state.specs.Quantities.{Code, Count, Dtype, Ioid, SessionNumber, Sid}
use Rattle.gateway_state.specs.declared.search.RememberedSearch.{RememberedSearch}
use Rattle.gateway_state.specs.Searches.{left_by_channel, with_search, without_search}
use Rattle.gateway_state.specs.Resolution.{rights_left}
use Rattle.gateway_state.specs.Rights.{channel_of, lead_in, rights_of}
use Rattle.gateway_state.specs.Telling.{told, marked}
use Rattle.gateway_state.specs.Variables.{ConnectedVariable, connected}

-- the session's message isn't understood
abbrev pub not_understood : Gateway → ℕ → Header → Gateway
not_understood w number head = told number (replies.Error NO_CHANNEL ECA_INTERNAL head) w

-- the number of a channel was given out, to this session or to another. Where its counter began again, each was
abbrev pub was_given_out : Gateway → Sid → Bool
was_given_out w sid =
    nat_le w.config.first sid
    && (nat_lt sid w.upstream.counters.sid || w.upstream.counters.again.sid && nat_le sid LAST_NUMBER)

-- it names no channel of the session. One on a number that was given out is passed over, where that is
-- wanted: its client was told that the channel is gone. A number that was only ever another session's was
-- given out too; a client can name it only by guessing
abbrev pub no_channel : Gateway → ℕ → Header → Gateway
no_channel w number head =
    if w.limits.passes_over_gone && was_given_out w head.p1 then w
    else told number (replies.Error NO_CHANNEL ECA_BADCHID head) w

-- the session said which minor version it speaks
abbrev pub versioned : Gateway → ℕ → ℕ → Gateway
versioned w number minor = if nat_lt minor LOWEST_MINOR then marked (dests.Session number) w else w

-- CREATE_CHAN

-- the session's host can no longer change
abbrev pub fixed : Session → Session
fixed row = record row { host_fixed = true }

abbrev pub with_host_fixed : ℕ → Gateway → Gateway
with_host_fixed number w =
    record w { clients = record w.clients { sessions = change_first (is_numbered number) fixed w.clients.sessions } }

-- somebody at a host looks for the name: that is remembered, once
abbrev pub remembered : List ℕ → List ℕ → Gateway → Gateway
remembered host name w = record w { searches = with_search w.limits host name w.searches }

-- nothing was read on a channel yet
abbrev pub no_reach : Reach
no_reach = record { count = 0; props = false }

-- the server's number of a channel
abbrev pub sid_of : Channel → ℕ
sid_of c = c.sid

-- the numbers of the session's channels
abbrev pub sids_of : SessionNumber → Gateway → List ℕ
sids_of number w = map sid_of (filter (is_channel_of number) w.clients.channels)

-- the number of the session's next channel: one that no other channel of it has
abbrev pub next_sid : Gateway → SessionNumber → ℕ
next_sid w number =
    next_number w.limits.reuses_numbers w.config.first w.upstream.counters.again.sid
    (λ sid. has_channel number sid w.clients) (sids_of number w) w.upstream.counters.sid

-- with a new channel
abbrev pub with_channel : ℕ → ℕ → List ℕ → List ℕ → ℕ → Gateway → Gateway
with_channel number cid name real rights w = record w {
  clients = record w.clients {
    channels = w.clients.channels ++ record {
      session = number;
      sid = next_sid w number;
      cid = cid;
      asked = name;
      real = real;
      reach = no_reach;
      rights_told = rights;
    } ∷ [];
  };
  upstream = record w.upstream {
    counters = given_out CountsSids w.limits.reuses_numbers (next_sid w number) w.upstream.counters;
  };
}

-- the rights on a link that the policy leaves to who was led to it
abbrev pub rights_on : Gateway → Lead → LinkRow → ℕ
rights_on w lead link = bit_and link.rights (rights_left w.policy (Some lead))

-- the client's channel is made, with these rights, and the client is told of both
abbrev pub created_with : ℕ → ℕ → List ℕ → List ℕ → ℕ → Native → Gateway → Gateway
created_with number cid name real rights native w =
    told number (replies.CreateChannel cid (next_sid w number) native.dtype native.count)
    (told number (replies.AccessRights cid rights) (with_channel number cid name real rights w))

-- the client's channel on a variable whose native type and count are known
abbrev pub created : ℕ → ℕ → List ℕ → Lead → LinkRow → Native → Gateway → Gateway
created number cid name lead link native w = created_with number cid name lead.real (rights_on w lead link) native w

-- the search for a name that goes once a client opens a channel on it: that of its connection's address
abbrev pub search_left_by : Option Session → List ℕ → Gateway → Option RememberedSearch
search_left_by None name w = None
search_left_by (Some row) name w = left_by_channel w.limits row.peer name w.searches

-- what is open is wanted by its channel, and needs no search
abbrev pub without_search_for : ℕ → List ℕ → Gateway → Gateway
without_search_for number name w = record w {
  searches = without_search (search_left_by (find (is_numbered number) w.clients.sessions) name w) w.searches;
}

abbrev pub creation_failed : ℕ → ℕ → Gateway → Gateway
creation_failed number cid w = told number (replies.CreateChannelFail cid) w

abbrev pub remembered_by : Option Session → List ℕ → Gateway → Gateway
remembered_by None name w = w
remembered_by (Some row) name w = remembered row.host name w

-- no connected variable was found: the session's host looks for the name
abbrev pub not_connected : ℕ → ℕ → List ℕ → Gateway → Gateway
not_connected number cid name w =
    creation_failed number cid (remembered_by (find (is_numbered number) w.clients.sessions) name w)

-- the client's channel, where the variable that its name leads to is connected
abbrev pub created_over : ℕ → ℕ → List ℕ → Lead → Option ConnectedVariable → Gateway → Gateway
created_over number cid name lead None w = not_connected number cid name w
created_over number cid name lead (Some v) w =
    without_search_for number name (created number cid name lead v.link v.native w)

-- the client's channel, where its name leads somewhere and one more may be open
abbrev pub created_as : ℕ → ℕ → List ℕ → Option Lead → Gateway → Gateway
created_as number cid name None w = creation_failed number cid w
created_as number cid name (Some lead) w =
    if nat_le w.limits.channels (channel_count number w.clients) then creation_failed number cid w
    else created_over number cid name lead (connected w lead.real) w

-- the client wants a channel on the name
abbrev pub channel_asked : ℕ → ℕ → List ℕ → Gateway → Gateway
channel_asked number cid name w = created_as number cid name (lead_in w number name) (with_host_fixed number w)

-- SEARCH

-- the session is told that the name is served here
abbrev pub told_served : ℕ → ℕ → Gateway → Gateway
told_served number cid w = told number (replies.Search cid w.config.port) w

-- it is told so where the name's variable is connected; else it hears nothing, and seeks the name again
abbrev pub served_over : ℕ → ℕ → Option ConnectedVariable → Gateway → Gateway
served_over number cid None w = w
served_over number cid (Some v) w = told_served number cid w

-- the session's host looks for the name, where it leads somewhere
abbrev pub sought_as : ℕ → ℕ → List ℕ → Option Lead → Gateway → Gateway
sought_as number cid name None w = w
sought_as number cid name (Some lead) w =
    served_over number cid (connected w lead.real) (remembered_by (find (is_numbered number) w.clients.sessions) name w)

-- the client seeks a name on its connection
abbrev pub sought : ℕ → ℕ → List ℕ → Gateway → Gateway
sought number cid name w = sought_as number cid name (lead_in w number name) w

-- CLEAR_CHANNEL

-- without a channel and what is on it: its subscriptions, waiting reads and waiting writes
abbrev pub without_channel : ℕ → ℕ → Gateway → Gateway
without_channel number sid w = record w {
  clients = record w.clients {
    channels = filter (is_not_channel number sid) w.clients.channels;
    subs = filter (is_not_sub_on number sid) w.clients.subs;
    reads = filter (is_not_read_on number sid) w.clients.reads;
  };
  upstream = record w.upstream { writes = filter (is_not_write_on number sid) w.upstream.writes };
}

abbrev pub cleared : ℕ → ℕ → ℕ → Header → Option Channel → Gateway → Gateway
cleared number sid cid head None w = no_channel w number head
cleared number sid cid head (Some c) w = told number (replies.ClearChannel sid cid) (without_channel number sid w)

-- the client gives up a channel
abbrev pub channel_cleared : ℕ → ℕ → ℕ → Header → Gateway → Gateway
channel_cleared number sid cid head w = cleared number sid cid head (channel_of w number sid) w

-- READ_NOTIFY

abbrev pub read_refused : SessionNumber → Ioid → Dtype → Count → Code → Gateway → Gateway
read_refused number ioid dtype count code w = told number (replies.ReadNotifyRefused ioid dtype count code) w

-- how far the reads on a channel reach, with one more of this type and count
abbrev pub reach_with : Reach → Native → ℕ → ℕ → Reach
reach_with reach native dtype count = record {
  count = max reach.count (meant_count native.count count);
  props = reach.props || needs_by_number native.dtype dtype;
}

-- a read that is accepted raises the channel's reach, and is answered later in the step or waits
abbrev pub accepted : SessionNumber → Sid → Ioid → Dtype → Count → Reach → ℕ → Gateway → Gateway
accepted number sid ioid dtype count reach rights w = record w {
  clients = record w.clients {
    channels = change_first (is_channel number sid) (with_reach_and_rights reach rights) w.clients.channels;
    reads = w.clients.reads ++ record { session = number; sid = sid; dtype = dtype; count = count; ioid = ioid } ∷ [];
  };
}

-- it isn't covered, and as many reads of the session wait as may
abbrev pub is_one_too_many : Gateway → ℕ → Option Given → Bool
is_one_too_many w number given = nat_le w.limits.reads (read_count number w.clients) && not (is_some given)

-- what becomes of a read on a channel of a variable, unless it is refused for this reason
abbrev pub verdict_unless : Gateway → Channel → ConnectedVariable → Dtype → Count → Option Code → ReadVerdict
verdict_unless w c v dtype count (Some code) = Refused code
verdict_unless w c v dtype count None =
    if is_one_too_many w c.session (cached_value w v.link.cid v.native.count dtype count) then Refused ECA_GETFAIL
    else Accepted (reach_with c.reach v.native dtype count) c.rights_told

-- what becomes of it by the channel's variable
abbrev pub verdict_over : Gateway → Channel → Dtype → Count → Option ConnectedVariable → ReadVerdict
verdict_over w c dtype count None = Ignored
verdict_over w c dtype count (Some v) =
    verdict_unless w c v dtype count (refusal v.native (rights_of w c) dtype count)

-- what becomes of it by the channel that it names
abbrev pub verdict_on : Gateway → Dtype → Count → Option Channel → ReadVerdict
verdict_on w dtype count None = NoChannel
verdict_on w dtype count (Some c) = verdict_over w c dtype count (connected w c.real)

-- what becomes of a read
abbrev pub read_verdict : Gateway → SessionNumber → Sid → Dtype → Count → ReadVerdict
read_verdict w number sid dtype count = verdict_on w dtype count (channel_of w number sid)

abbrev pub judged : SessionNumber → Sid → Ioid → Dtype → Count → Header → ReadVerdict → Gateway → Gateway
judged number sid ioid dtype count head NoChannel w = no_channel w number head
judged number sid ioid dtype count head Ignored w = w
judged number sid ioid dtype count head (Refused code) w = read_refused number ioid dtype count code w
judged number sid ioid dtype count head (Accepted reach rights) w = accepted number sid ioid dtype count reach rights w

-- the client wants a value
abbrev pub read_asked : SessionNumber → Sid → Ioid → Dtype → Count → Header → Gateway → Gateway
read_asked number sid ioid dtype count head w =
    judged number sid ioid dtype count head (read_verdict w number sid dtype count) w

-- CLIENT_NAME

-- with another user, unless its host is fixed
abbrev pub called : List ℕ → Session → Session
called user row = if row.host_fixed then row else record row { user = user }

abbrev pub client_named : ℕ → List ℕ → Gateway → Gateway
client_named number user w =
    record w { clients = record w.clients { sessions = change_first (is_numbered number) (called user) w.clients.sessions } }

-- HOST_NAME

-- with another host, unless it is fixed, or hosts are the addresses that connections come from
abbrev pub renamed : Bool → List ℕ → Session → Session
renamed checks_hosts host row = if row.host_fixed || checks_hosts then row else record row { host = host }

abbrev pub host_named : ℕ → List ℕ → Gateway → Gateway
host_named number host w = record w {
  clients = record w.clients {
    sessions = change_first (is_numbered number) (renamed w.limits.checks_hosts host) w.clients.sessions;
  };
}
