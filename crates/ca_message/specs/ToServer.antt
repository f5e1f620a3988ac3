-- The wire form of the messages to a server (Channel Access Protocol Specification, "Commands").
use Rattle.std.specs.Prelude.{ℕ, ◌≤◌, List, [], ◌++◌, length, replicate}
use Rattle.std.specs.Int.{w16, to_be_bytes}
use Rattle.ca_header.specs.declared.header.Header.{Header}
use Rattle.ca_header.specs.declared.header.Message.{Message}
use Rattle.ca_header.specs.declared.header.TheConstants.{MAX_PAYLOAD}
use Rattle.pv_name.specs.Name.{IsName}
use Rattle.ca_message.specs.Padding.{nul_ended, padded}
use Rattle.ca_message.specs.Wire.{message}
use Rattle.ca_message.specs.declared.commands.TheConstants.{CA_PROTO_VERSION, CA_PROTO_EVENT_ADD, CA_PROTO_EVENT_CANCEL, CA_PROTO_CLEAR_CHANNEL, CA_PROTO_CREATE_CHAN, CA_PROTO_CLIENT_NAME, CA_PROTO_HOST_NAME, CA_PROTO_ECHO, CA_PROTO_WRITE, CA_PROTO_WRITE_NOTIFY, MINOR_VERSION}
use Rattle.ca_message.specs.declared.payload.TheConstants.{EVENT_MASK_OFFSET}
use Rattle.ca_message.specs.declared.to_server.ToServer.{ToServer}
use Rattle.ca_message.specs.declared.to_server.ToServer.TheVariants.{Version, EventAdd, EventCancel, ClearChannel, CreateChannel, Write, WriteNotify, ClientName, HostName, Echo}

-- what an EVENT_ADD carries: three obsolete numbers of four bytes each, the mask, and two bytes of padding
abbrev pub event_payload : ℕ → List ℕ
event_payload mask = replicate EVENT_MASK_OFFSET 0 ++ to_be_bytes w16 mask ++ replicate 2 0

-- the message on the wire: its command, type, count, p1, p2 and payload
abbrev pub server_message : ToServer → Message
server_message Version = message CA_PROTO_VERSION 0 MINOR_VERSION 0 0 []
server_message (EventAdd sid id dtype count mask) = message CA_PROTO_EVENT_ADD dtype count sid id (event_payload mask)
server_message (EventCancel sid id dtype count) = message CA_PROTO_EVENT_CANCEL dtype count sid id []
server_message (ClearChannel sid cid) = message CA_PROTO_CLEAR_CHANNEL 0 0 sid cid []
server_message (CreateChannel cid name) = message CA_PROTO_CREATE_CHAN 0 0 cid MINOR_VERSION (nul_ended name)
server_message (Write sid value) = message CA_PROTO_WRITE value.dtype value.count sid 0 (padded value.bytes)
server_message (WriteNotify sid ioid value) = message CA_PROTO_WRITE_NOTIFY value.dtype value.count sid ioid (padded value.bytes)
server_message (ClientName name) = message CA_PROTO_CLIENT_NAME 0 0 0 0 (nul_ended name)
server_message (HostName name) = message CA_PROTO_HOST_NAME 0 0 0 0 (nul_ended name)
server_message Echo = message CA_PROTO_ECHO 0 0 0 0 []

abbrev pub server_head : ToServer → Header
server_head m = (server_message m).head

abbrev pub server_payload : ToServer → List ℕ
server_payload m = (server_message m).payload

-- the parts that the message is given fit: a text is a name, and a value is no longer than a payload
abbrev pub HasFittingParts : ToServer → Type 0
HasFittingParts (CreateChannel cid name) = IsName name
HasFittingParts (ClientName name) = IsName name
HasFittingParts (HostName name) = IsName name
HasFittingParts (Write sid value) = length value.bytes ≤ MAX_PAYLOAD
HasFittingParts (WriteNotify sid ioid value) = length value.bytes ≤ MAX_PAYLOAD
HasFittingParts _ = Unit {0}
