-- Where a reply on a stream says that the server is. The VERSION of the stream told the minor version already, so a reply need not:
-- one without a payload counts, as servers of EPICS base send it. One with a payload is read as that of a datagram.
use Rattle.std.specs.Prelude.{ℕ, List, length, ◌==◌, ◌&&◌, ◌||◌, not, nat_lt, if◌then◌else◌, Bool, Option, Some, None}
use Rattle.ca_header.specs.declared.header.Header.{Header}
use Rattle.ca_message.specs.declared.commands.TheConstants.{CA_PROTO_SEARCH}
use Rattle.pv_search.specs.Replies.{host_in, minor_in}
use Rattle.pv_search.specs.declared.replies.Reply.{Reply}

-- whether the payload is none, or tells a minor version of at least 8
abbrev pub says_enough : List ℕ → Bool
says_enough payload = (length payload == 0) || not (nat_lt (minor_in payload) 8)

abbrev pub is_stream_reply : Header → List ℕ → Bool
is_stream_reply head payload = (head.command == CA_PROTO_SEARCH) && (says_enough payload && not (head.dtype == 0))

-- none of another message
abbrev pub stream_reply_of : Header → List ℕ → Option Reply
stream_reply_of head payload =
    if is_stream_reply head payload then Some (record { cid = head.p2; host = host_in head.p1; port = head.dtype }) else None
