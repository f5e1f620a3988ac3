-- What one event gives a connection.
use Rattle.std.specs.Prelude.{◌≡◌, ℕ, List, length, drop, Bool, false, Some, Ok}
use Rattle.ca_header.specs.declared.header.Message.{Message}
use Rattle.ca_message.specs.declared.request.ClientRequest.TheVariants as requests
use Rattle.ca_message.specs.declared.to_client.ToClient.{ToClient}
use Rattle.ca_message.specs.declared.to_client.ToClient.TheVariants as replies
use Rattle.ca_message.specs.declared.to_server.ToServer.{ToServer}
use Rattle.ca_message.specs.ClientRequest.{request_of}
use Rattle.fanout.specs.declared.outbox.Out.{Out}
use Rattle.value_cache.specs.Held.{Held, answer}
use Rattle.gateway_state.specs.declared.event.Dest.{Dest}
use Rattle.gateway_state.specs.declared.event.Dest.TheVariants.{Session, Upstream}
use Rattle.gateway_state.specs.declared.event.Event.{Event}
use Rattle.gateway_state.specs.declared.event.Event.TheVariants.{Client, Drain, Lost, UpLost}
use Rattle.gateway_state.specs.Connections.{outbox_of, same_dest}
use Rattle.gateway_state.specs.Direct.{drained}
use Rattle.gateway_state.specs.Gateway.{Gateway}
use Rattle.gateway_state.specs.Sessions.{lost, up_lost}
use Rattle.gateway_state.specs.Step.{step}
use Rattle.gateway_state.specs.Telling.{outgoing, outgoing_upstream}

-- the messages that wait for a connection
abbrev pub waiting_for : Gateway → Dest → List Out
waiting_for w dest = (outbox_of dest w.connections).messages

-- what an event takes away, before anything is said: a lost connection with its rows, drained messages
abbrev pub before_said : Gateway → Event → Gateway
before_said w (Lost number) = lost w number
before_said w (UpLost number) = up_lost w number
before_said w (Drain dest count) = drained w dest count
before_said w event = w

-- the messages that an event gives a connection: those that wait for it afterwards, behind those that
-- waited before and weren't taken
abbrev pub given_by : Gateway → Event → Dest → List Out
given_by w event dest = drop (length (waiting_for (before_said w event) dest)) (waiting_for (step w event) dest)

-- the event is the loss of this very connection
abbrev pub is_loss_of : Event → Dest → Bool
is_loss_of (Lost number) dest = same_dest (Session number) dest
is_loss_of (UpLost number) dest = same_dest (Upstream number) dest
is_loss_of event dest = false

-- so many elements of the type, as they are laid out of something held
abbrev pub IsLaidOut : ℕ → ℕ → List ℕ → Type 0
IsLaidOut dtype count value = (held : Held) × ((asked : ℕ) × (answer dtype asked held ≡ Some (count, value)))

-- what an event may say to a session: an ECHO only where the event is this session's own ECHO, which goes
-- back as it came; an ERROR only over the header of what this session sent; and values only as they are
-- laid out, in the type and count that are told
abbrev pub IsSaidBy : Event → ℕ → ToClient → Type 0
IsSaidBy event number (replies.Echo message) =
    (event ≡ Client number message) × (request_of message.head message.payload ≡ Ok requests.Echo)
IsSaidBy event number (replies.Error cid code head) =
    (message : Message) × ((event ≡ Client number message) × (message.head ≡ head))
IsSaidBy event number (replies.Update id dtype count value) = IsLaidOut dtype count value
IsSaidBy event number (replies.ReadNotify ioid dtype count value) = IsLaidOut dtype count value
IsSaidBy event number _ = Unit {0}

-- a message to a client is the wire form of a reply or notice that the event may say to it, one to a server
-- that of a request
abbrev pub IsWireForm : Event → Dest → Out → Type 0
IsWireForm event (Session number) out = (said : ToClient) × (IsSaidBy event number said × (out ≡ outgoing said))
IsWireForm event (Upstream number) out = (said : ToServer) × (out ≡ outgoing_upstream said)
