-- The message at the front of what is left of a datagram.
use Rattle.std.specs.Prelude.{◌+◌, ◌==◌, Option, Some, None}
use Rattle.ca_header.specs.declared.reading.Front.{Front}
use Rattle.ca_header.specs.declared.reading.Front.TheVariants.{Whole, Partial, Fault}
use Rattle.ca_message.specs.declared.commands.TheConstants.{CA_PROTO_SEARCH}
use Rattle.pv_search.specs.declared.parts.FrontMessage.{FrontMessage}

-- how many bytes it has, and whether it is a search; none where no message is whole
abbrev pub cut_of : Front → Option FrontMessage
cut_of (Whole head n) = Some (record { len = n + head.size; is_search = head.command == CA_PROTO_SEARCH })
cut_of Partial = None
cut_of (Fault f) = None
