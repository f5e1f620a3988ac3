-- What a client's message does, by what it means.
use Rattle.std.specs.Prelude.{ℕ, true, false, ◌==◌, ◌||◌, if◌then◌else◌, Option, Some, None, Result, Ok, Err}
use Rattle.ca_header.specs.declared.header.Header.{Header}
use Rattle.ca_header.specs.declared.header.Message.{Message}
use Rattle.ca_message.specs.declared.commands.TheConstants.{CA_PROTO_CREATE_CHAN, CA_PROTO_CLIENT_NAME, CA_PROTO_EVENT_ADD, CA_PROTO_HOST_NAME}
use Rattle.ca_message.specs.declared.request.ClientRequest.{ClientRequest}
use Rattle.ca_message.specs.declared.request.ClientRequest.TheVariants as requests
use Rattle.ca_message.specs.declared.request.RequestFault.{RequestFault}
use Rattle.ca_message.specs.declared.to_client.ToClient.TheVariants as replies
use Rattle.ca_message.specs.ClientRequest.{request_of}
use Rattle.pv_search.specs.declared.search.SearchRequest.{SearchRequest}
use Rattle.pv_search.specs.Search.{search_of}
use Rattle.gateway_state.specs.Clients.{channel_asked, channel_cleared, creation_failed, client_named, host_named, not_understood, read_asked, sought, versioned, with_host_fixed}
use Rattle.gateway_state.specs.Gateway.{Gateway}
use Rattle.gateway_state.specs.Subscribing.{new_sub, paused_to, short_subscription, subscription_asked, subscription_cancelled}
use Rattle.gateway_state.specs.Telling.{told}
use Rattle.gateway_state.specs.Writing.{write_asked, write_notify_asked}

-- a message that is no request: a CREATE_CHAN without a name fails, texts that can't be read are
-- ignored, a short EVENT_ADD is refused over its channel, and anything else isn't understood
abbrev pub unreadable : Gateway → ℕ → Header → Gateway
unreadable w number head =
    if head.command == CA_PROTO_CREATE_CHAN then creation_failed number head.p1 (with_host_fixed number w)
    else if head.command == CA_PROTO_CLIENT_NAME || head.command == CA_PROTO_HOST_NAME then w
    else if head.command == CA_PROTO_EVENT_ADD then short_subscription w number head
    else not_understood w number head

-- what a request does, by what it means
abbrev pub requested : Gateway → ℕ → Message → Result ClientRequest RequestFault → Gateway
requested w number message (Ok (requests.Version minor)) = versioned w number minor
requested w number message (Ok (requests.EventAdd add)) =
    subscription_asked (new_sub number add.sid add.id add.dtype add.count add.mask) message.head w
requested w number message (Ok (requests.EventCancel cancel)) =
    subscription_cancelled number cancel.sid cancel.id cancel.dtype cancel.count message.head w
requested w number message (Ok (requests.Write write)) =
    write_asked number write.sid write.dtype write.count write.value message.head w
requested w number message (Ok requests.EventsOff) = paused_to number true w
requested w number message (Ok requests.EventsOn) = paused_to number false w
requested w number message (Ok (requests.ClearChannel clear)) = channel_cleared number clear.sid clear.cid message.head w
requested w number message (Ok (requests.ReadNotify read)) =
    read_asked number read.sid read.ioid read.dtype read.count message.head w
requested w number message (Ok (requests.CreateChannel create)) = channel_asked number create.cid create.name w
requested w number message (Ok (requests.WriteNotify write)) =
    write_notify_asked number write.sid write.ioid write.dtype write.count write.value message.head w
requested w number message (Ok (requests.ClientName name)) = client_named number name w
requested w number message (Ok (requests.HostName host)) = host_named number host w
requested w number message (Ok requests.Echo) = told number (replies.Echo message) w
requested w number message (Err fault) = unreadable w number message.head

-- the search that a message is, where searches are answered on connections; it is read as in a datagram
abbrev pub search_in : Gateway → Message → Option SearchRequest
search_in w message = if w.limits.answers_searches then search_of message.head message.payload else None

abbrev pub said_as : Gateway → ℕ → Message → Option SearchRequest → Gateway
said_as w number message None = requested w number message (request_of message.head message.payload)
said_as w number message (Some search) = sought number search.cid search.name w

-- a client sent a message
abbrev pub client_said : Gateway → ℕ → Message → Gateway
client_said w number message = said_as w number message (search_in w message)
