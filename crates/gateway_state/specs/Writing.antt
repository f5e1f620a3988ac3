-- What clients write, and what servers say of it.
use Rattle.std.specs.Prelude.{ℕ, List, [], ◌∷◌, ◌++◌, filter, Bool, ◌==◌, nat_le, bit_and, if◌then◌else◌, Option, Some, None, Result, Ok, Err}
use Rattle.std.specs.List.{find}
use Rattle.ca_header.specs.declared.header.Header.{Header}
use Rattle.ca_message.specs.declared.codes.TheConstants.{ECA_NOWTACCESS, ECA_PUTFAIL}
use Rattle.ca_message.specs.declared.commands.TheConstants.{CA_PROTO_ACCESS_RIGHT_WRITE}
use Rattle.ca_message.specs.declared.to_client.ToClient.TheVariants as replies
use Rattle.ca_message.specs.declared.to_server.ToServer.TheVariants as requests
use Rattle.ca_message.specs.declared.written.WriteFault.{WriteFault}
use Rattle.ca_message.specs.Written.{Written, refusal_code, written}
use Rattle.named_rows.specs.declared.channels.Channel.{Channel}
use Rattle.link_table.specs.declared.writes.WaitingWrite.{WaitingWrite}
use Rattle.link_table.specs.LinkRows.{write_count}
use Rattle.link_table.specs.declared.counter.Counter.TheVariants.{Write as CountsWrites}
use Rattle.link_table.specs.Counters.{given_out}
use Rattle.link_table.specs.Numbers.{next_write_id as next_write_id_in}
use Rattle.link_table.specs.Writes.{is_write, is_not_write}
use Rattle.gateway_state.specs.declared.notice.WriteVerdict.{WriteVerdict}
use Rattle.gateway_state.specs.declared.notice.WriteVerdict.TheVariants.{NoChannel, Ignored, Refused, Accepted}
use Rattle.gateway_state.specs.Clients.{no_channel}
use Rattle.gateway_state.specs.Gateway.{Gateway}
use Rattle.gateway_state.specs.Quantities.{Code, Count, Dtype, Ioid, ServerNumber, SessionNumber, Sid}
use Rattle.gateway_state.specs.Rights.{channel_of, rights_of}
use Rattle.gateway_state.specs.Subscribing.{request_refused}
use Rattle.gateway_state.specs.Telling.{asked, told}
use Rattle.gateway_state.specs.Variables.{ConnectedVariable, connected}

-- the rights let the client write
abbrev pub may_write : ℕ → Bool
may_write rights = bit_and rights CA_PROTO_ACCESS_RIGHT_WRITE == CA_PROTO_ACCESS_RIGHT_WRITE

-- a value that isn't fit to be handed on is refused first, then a write without the right; else it goes
-- to the server of the channel's link, under the server's own ID of the channel
abbrev pub write_judged : Gateway → Channel → ℕ → ℕ → Result Written WriteFault → WriteVerdict
write_judged w c server sid (Err fault) = Refused c.cid (refusal_code fault)
write_judged w c server sid (Ok value) =
    if may_write (rights_of w c) then Accepted server sid value else Refused c.cid ECA_NOWTACCESS

-- what becomes of a write by its channel's variable
abbrev pub write_verdict_over : Gateway → Channel → Dtype → Count → List ℕ → Option ConnectedVariable → WriteVerdict
write_verdict_over w c dtype count payload None = Ignored
write_verdict_over w c dtype count payload (Some v) =
    write_judged w c v.link.server v.sid (written dtype count v.native.count payload)

-- what becomes of it by the channel that it names
abbrev pub write_verdict_on : Gateway → Dtype → Count → List ℕ → Option Channel → WriteVerdict
write_verdict_on w dtype count payload None = NoChannel
write_verdict_on w dtype count payload (Some c) = write_verdict_over w c dtype count payload (connected w c.real)

-- what becomes of a write
abbrev pub write_verdict : Gateway → SessionNumber → Sid → Dtype → Count → List ℕ → WriteVerdict
write_verdict w number sid dtype count payload = write_verdict_on w dtype count payload (channel_of w number sid)

-- WRITE

abbrev pub written_by : ℕ → Header → WriteVerdict → Gateway → Gateway
written_by number head NoChannel w = no_channel w number head
written_by number head Ignored w = w
written_by number head (Refused cid code) w = request_refused number cid code head w
written_by number head (Accepted server sid value) w = asked server (requests.Write sid value) w

-- the client writes a value, and wants no reply
abbrev pub write_asked : SessionNumber → Sid → Dtype → Count → List ℕ → Header → Gateway → Gateway
write_asked number sid dtype count payload head w =
    written_by number head (write_verdict w number sid dtype count payload) w

-- WRITE_NOTIFY

-- the client is told how its write ended
abbrev pub write_answered : SessionNumber → Ioid → Dtype → Count → Code → Gateway → Gateway
write_answered number ioid dtype count status w = told number (replies.WriteNotify ioid dtype count status) w

-- the ID of the next write to a server: one that no other write to it has
abbrev pub next_write_id : Gateway → ServerNumber → ℕ
next_write_id w server = next_write_id_in w.limits.reuses_numbers w.config.first server w.upstream

-- a write under the next ID, until its server says how it ended
abbrev pub new_write : Gateway → ServerNumber → SessionNumber → Sid → Dtype → Count → Ioid → WaitingWrite
new_write w server number sid dtype count ioid = record {
  server = server;
  id = next_write_id w server;
  session = number;
  sid = sid;
  dtype = dtype;
  count = count;
  ioid = ioid;
}

-- with one waiting write more, and its ID given out
abbrev pub with_write : WaitingWrite → Gateway → Gateway
with_write write w = record w {
  upstream = record w.upstream {
    writes = w.upstream.writes ++ write ∷ [];
    counters = given_out CountsWrites w.limits.reuses_numbers write.id w.upstream.counters;
  };
}

-- the write is handed on, and waits
abbrev pub write_waits : WaitingWrite → ℕ → Written → Gateway → Gateway
write_waits write upstream_sid value w =
    asked write.server (requests.WriteNotify upstream_sid write.id value) (with_write write w)

-- unless as many writes of the session wait as may
abbrev pub write_handed_on : SessionNumber → Sid → Ioid → Dtype → Count → ServerNumber → Sid → Written → Gateway → Gateway
write_handed_on number sid ioid dtype count server upstream_sid value w =
    if nat_le w.limits.writes (write_count number w.upstream) then write_answered number ioid dtype count ECA_PUTFAIL w
    else write_waits (new_write w server number sid dtype count ioid) upstream_sid value w

abbrev pub notified_by : SessionNumber → Sid → Ioid → Dtype → Count → Header → WriteVerdict → Gateway → Gateway
notified_by number sid ioid dtype count head NoChannel w = no_channel w number head
notified_by number sid ioid dtype count head Ignored w = w
notified_by number sid ioid dtype count head (Refused cid code) w = write_answered number ioid dtype count code w
notified_by number sid ioid dtype count head (Accepted server upstream_sid value) w =
    write_handed_on number sid ioid dtype count server upstream_sid value w

-- the client writes a value, and wants to be told how that ended
abbrev pub write_notify_asked : SessionNumber → Sid → Ioid → Dtype → Count → List ℕ → Header → Gateway → Gateway
write_notify_asked number sid ioid dtype count payload head w =
    notified_by number sid ioid dtype count head (write_verdict w number sid dtype count payload) w

-- what the server says of it

abbrev pub without_write : ℕ → ℕ → Gateway → Gateway
without_write server id w =
    record w { upstream = record w.upstream { writes = filter (is_not_write server id) w.upstream.writes } }

abbrev pub write_ended_for : ℕ → ℕ → ℕ → Option WaitingWrite → Gateway → Gateway
write_ended_for server id status None w = w
write_ended_for server id status (Some write) w =
    write_answered write.session write.ioid write.dtype write.count status (without_write server id w)

-- a server says how a write ended: the client that asked for it is told, under its own ID of it; an ID
-- under which nothing waits there is ignored
abbrev pub write_ended : Gateway → ℕ → ℕ → ℕ → Gateway
write_ended w server id status = write_ended_for server id status (find (is_write server id) w.upstream.writes) w
