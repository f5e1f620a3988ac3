-- Where a reply to a search says that the server is (Channel Access Protocol Specification, "Searching"). A server whose minor
-- version is at least 8 says it, and tells that version in the first two bytes of the payload.
use Rattle.std.specs.Prelude.{ℕ, List, ◌+◌, ◌*◌, ◌==◌, ◌&&◌, not, nat_lt, if◌then◌else◌, Bool, Option, Some, None, slice_get}
use Rattle.ca_header.specs.declared.header.Header.{Header}
use Rattle.ca_message.specs.declared.commands.TheConstants.{CA_PROTO_SEARCH, SENDER_ADDRESS}
use Rattle.pv_search.specs.declared.replies.Reply.{Reply}

-- the minor version that the first two bytes of a payload tell; 0 where there are fewer
abbrev pub minor_over : Option ℕ → Option ℕ → ℕ
minor_over (Some high) (Some low) = high * 256 + low
minor_over (Some high) None = 0
minor_over None low = 0

abbrev pub minor_in : List ℕ → ℕ
minor_in payload = minor_over (slice_get payload 0) (slice_get payload 1)

-- the server's address; none where it is that which the datagram came from
abbrev pub host_in : ℕ → Option ℕ
host_in address = if address == SENDER_ADDRESS then None else Some address

-- a reply of a server that says where it is; none of another message
abbrev pub is_reply : Header → List ℕ → Bool
is_reply head payload = (head.command == CA_PROTO_SEARCH) && (not (nat_lt (minor_in payload) 8) && not (head.dtype == 0))

abbrev pub reply_of : Header → List ℕ → Option Reply
reply_of head payload = if is_reply head payload then Some (record { cid = head.p2; host = host_in head.p1; port = head.dtype }) else None
