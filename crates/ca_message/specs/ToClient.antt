-- The wire form of the messages to a client (Channel Access Protocol Specification, "Commands").
use Rattle.std.specs.Prelude.{ℕ, List, [], ◌++◌, max, replicate, Option, Some, None}
use Rattle.std.specs.Int.{w16, to_be_bytes}
use Rattle.ca_header.specs.Header.{canonical_header}
use Rattle.ca_header.specs.declared.header.Header.{Header}
use Rattle.ca_header.specs.declared.header.Message.{Message}
use Rattle.ca_message.specs.ErrorText.{text_of}
use Rattle.ca_message.specs.Padding.{nul_ended, padded}
use Rattle.ca_message.specs.Wire.{message, IsPayload, IsWholeMessage}
use Rattle.ca_message.specs.declared.codes.TheConstants.{ECA_NORMAL}
use Rattle.ca_message.specs.declared.commands.TheConstants.{CA_PROTO_VERSION, CA_PROTO_ERROR, CA_PROTO_EVENT_ADD, CA_PROTO_CLEAR_CHANNEL, CA_PROTO_READ_NOTIFY, CA_PROTO_CREATE_CHAN, CA_PROTO_ACCESS_RIGHTS, CA_PROTO_CREATE_CH_FAIL, CA_PROTO_SEARCH, CA_PROTO_SERVER_DISCONN, CA_PROTO_WRITE_NOTIFY, MINOR_VERSION, SENDER_ADDRESS}
use Rattle.dbr_layout.specs.declared.dbr.Dbr.{Dbr}
use Rattle.dbr_layout.specs.Dbr.{dbr_of, value_offset}
use Rattle.ca_message.specs.declared.to_client.ToClient.{ToClient}
use Rattle.ca_message.specs.declared.to_client.ToClient.TheVariants.{Version, Echo, Error, Update, UpdateRefused, EventCancelled, ClearChannel, ReadNotify, ReadNotifyRefused, Search, CreateChannel, CreateChannelFail, WriteNotify, AccessRights, ServerDisconnect}

-- what an ERROR carries: the header of the refused request, then the text of the code
abbrev pub error_payload : Header → ℕ → List ℕ
error_payload request code = nul_ended (canonical_header request ++ text_of code)

-- how many bytes stand for a value that isn't told: those before the elements of the type, and at least one, since
-- clients take an update without any for the confirmation of a cancel
abbrev pub bytes_before : Option Dbr → ℕ
bytes_before None = 1
bytes_before (Some dbr) = max (value_offset dbr) 1

-- all of them zero, and padded
abbrev pub no_value : ℕ → List ℕ
no_value dtype = padded (replicate (bytes_before (dbr_of dtype)) 0)

-- what a SEARCH reply carries: the minor version that is spoken here, and zero bytes
abbrev pub spoken_version : List ℕ
spoken_version = to_be_bytes w16 MINOR_VERSION ++ replicate 6 0

-- the message on the wire: its command, type, count, p1, p2 and payload
abbrev pub client_message : ToClient → Message
client_message Version = message CA_PROTO_VERSION 0 MINOR_VERSION 0 0 []
client_message (Echo m) = m
client_message (Error cid code request) = message CA_PROTO_ERROR 0 0 cid code (error_payload request code)
client_message (Update id dtype count value) = message CA_PROTO_EVENT_ADD dtype count ECA_NORMAL id value
client_message (UpdateRefused id dtype code) = message CA_PROTO_EVENT_ADD dtype 0 code id (no_value dtype)
client_message (EventCancelled sid id dtype count) = message CA_PROTO_EVENT_ADD dtype count sid id []
client_message (ClearChannel sid cid) = message CA_PROTO_CLEAR_CHANNEL 0 0 sid cid []
client_message (ReadNotify ioid dtype count value) = message CA_PROTO_READ_NOTIFY dtype count ECA_NORMAL ioid value
client_message (ReadNotifyRefused ioid dtype count code) = message CA_PROTO_READ_NOTIFY dtype count code ioid []
client_message (Search cid port) = message CA_PROTO_SEARCH port 0 SENDER_ADDRESS cid spoken_version
client_message (CreateChannel cid sid dtype count) = message CA_PROTO_CREATE_CHAN dtype count cid sid []
client_message (CreateChannelFail cid) = message CA_PROTO_CREATE_CH_FAIL 0 0 cid 0 []
client_message (WriteNotify ioid dtype count status) = message CA_PROTO_WRITE_NOTIFY dtype count status ioid []
client_message (AccessRights cid rights) = message CA_PROTO_ACCESS_RIGHTS 0 0 cid rights []
client_message (ServerDisconnect cid) = message CA_PROTO_SERVER_DISCONN 0 0 cid 0 []

abbrev pub client_head : ToClient → Header
client_head m = (client_message m).head

abbrev pub client_payload : ToClient → List ℕ
client_payload m = (client_message m).payload

-- the parts that the message is given fit: an echoed message came whole, and a value may be a payload
abbrev pub HasWholeParts : ToClient → Type 0
HasWholeParts (Echo m) = IsWholeMessage m
HasWholeParts (Update id dtype count value) = IsPayload value
HasWholeParts (ReadNotify ioid dtype count value) = IsPayload value
HasWholeParts _ = Unit {0}
