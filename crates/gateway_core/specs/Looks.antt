-- How many rows of clients an event may look at.
use Rattle.std.specs.Prelude.{ℕ, ◌*◌, Result, Ok, Option, Some, None}
use Rattle.std.specs.List.{find}
use Rattle.ca_message.specs.declared.reply.ReplyFault.{ReplyFault}
use Rattle.ca_message.specs.declared.reply.ServerReply.{ServerReply}
use Rattle.ca_message.specs.declared.reply.ServerReply.TheVariants as says
use Rattle.ca_message.specs.declared.request.ClientRequest.{ClientRequest}
use Rattle.ca_message.specs.declared.request.ClientRequest.TheVariants as requests
use Rattle.ca_message.specs.declared.request.RequestFault.{RequestFault}
use Rattle.ca_message.specs.ClientRequest.{request_of}
use Rattle.ca_message.specs.ServerReply.{reply_of}
use Rattle.channel_table.specs.ClientRows.{channel_count}
use Rattle.gateway_rows.specs.Own.{own_over}
use Rattle.gateway_state.specs.declared.event.Event.{Event}
use Rattle.gateway_state.specs.declared.event.Event.TheVariants as events
use Rattle.gateway_state.specs.Gateway.{Gateway}
use Rattle.link_table.specs.Links.{has_subscription, is_link}
use Rattle.direct_effect.specs.Looks.{age_looks, reply_looks}

-- by itself
abbrev pub direct_looks : Gateway → Event → Option ℕ
direct_looks w (events.Lost number) = Some (channel_count number w.clients)
direct_looks w (events.Client number message) = Some 4
direct_looks w (events.Seek number cid name) = Some 4
direct_looks w (events.Server number message) = reply_looks w number (reply_of message.head message.payload)
direct_looks w events.Age = Some (age_looks w)
direct_looks w event = Some 0

-- An update, of a value or of properties, may look six times at each channel, subscription and waiting read of its
-- variable, however many rows there are. Rights, and a channel that goes, may look nine times at
-- each; nothing else that a server says is looked at for a client
abbrev pub update_looks : Gateway → ℕ → Result ServerReply ReplyFault → Option ℕ
update_looks w server (Ok (says.EventAdd id status dtype count value)) =
    Some (6 * own_over w (find (has_subscription server id) w.upstream.links))
update_looks w server (Ok (says.AccessRights cid rights)) = Some (9 * own_over w (find (is_link server cid) w.upstream.links))
update_looks w server (Ok (says.ServerDisconnect cid)) = Some (9 * own_over w (find (is_link server cid) w.upstream.links))
update_looks w server reply = Some 0

-- a request may look at eight rows, however many there are. Updates that are wanted again concern all
-- subscriptions of a session
abbrev pub request_looks : Result ClientRequest RequestFault → Option ℕ
request_looks (Ok requests.EventsOn) = None
request_looks request = Some 8

-- With all that follows from it. A lost client's channels are looked at once, and so are the reads that wait for
-- properties that are given up; a lost server, an edit, other limits, and room in an outbox that was full,
-- concern many rows
abbrev pub event_looks : Gateway → Event → Option ℕ
event_looks w (events.Lost number) = Some (channel_count number w.clients)
event_looks w (events.UpLost number) = None
event_looks w (events.Edit policy) = None
event_looks w (events.Drain dest count) = None
event_looks w (events.Limit limits) = None
event_looks w events.Age = Some (age_looks w)
event_looks w (events.Client number message) = request_looks (request_of message.head message.payload)
event_looks w (events.Seek number cid name) = Some 4
event_looks w (events.Server number message) = update_looks w number (reply_of message.head message.payload)
event_looks w event = Some 0
