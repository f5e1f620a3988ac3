-- What a server's datagram says (Channel Access Protocol Specification, "Searching").
use Rattle.std.specs.Prelude.{ℕ, List, ◌==◌, if◌then◌else◌, Option, Some, None}
use Rattle.ca_header.specs.declared.header.Header.{Header}
use Rattle.ca_message.specs.declared.commands.TheConstants.{CA_PROTO_SEARCH}

-- the CID of a reply to a search; none of another message
abbrev pub found_cid : Header → List ℕ → Option ℕ
found_cid head payload = if head.command == CA_PROTO_SEARCH then Some head.p2 else None
