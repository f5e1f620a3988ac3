-- What a server's message means (Channel Access Protocol Specification, "Commands").
use Rattle.std.specs.Prelude.{ℕ, List, ◌==◌, if◌then◌else◌, bit_and, Result, Ok, Err}
use Rattle.ca_header.specs.declared.header.Header.{Header}
use Rattle.ca_message.specs.declared.commands.TheConstants.{CA_PROTO_VERSION, CA_PROTO_EVENT_ADD, CA_PROTO_CREATE_CHAN, CA_PROTO_ACCESS_RIGHTS, CA_PROTO_CREATE_CH_FAIL, CA_PROTO_SERVER_DISCONN, CA_PROTO_WRITE_NOTIFY, READ_AND_WRITE}
use Rattle.ca_message.specs.declared.reply.ServerReply.{ServerReply}
use Rattle.ca_message.specs.declared.reply.ServerReply.TheVariants.{Version, EventAdd, CreateChannel, WriteNotify, AccessRights, CreateChannelFail, ServerDisconnect}
use Rattle.ca_message.specs.declared.reply.ReplyFault.{ReplyFault}
use Rattle.ca_message.specs.declared.reply.ReplyFault.TheVariants.{Unknown}

-- the reply that a server's message is, by its command, or why it is none
abbrev pub reply_of : Header → List ℕ → Result ServerReply ReplyFault
reply_of head payload =
    if head.command == CA_PROTO_VERSION then Ok (Version head.count)
    else if head.command == CA_PROTO_EVENT_ADD then Ok (EventAdd head.p2 head.p1 head.dtype head.count payload)
    else if head.command == CA_PROTO_CREATE_CHAN then Ok (CreateChannel head.p1 head.p2 head.dtype head.count)
    else if head.command == CA_PROTO_WRITE_NOTIFY then Ok (WriteNotify head.p2 head.p1)
    else if head.command == CA_PROTO_ACCESS_RIGHTS then Ok (AccessRights head.p1 (bit_and head.p2 READ_AND_WRITE))
    else if head.command == CA_PROTO_CREATE_CH_FAIL then Ok (CreateChannelFail head.p1)
    else if head.command == CA_PROTO_SERVER_DISCONN then Ok (ServerDisconnect head.p1)
    else Err Unknown
