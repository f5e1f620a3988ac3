-- The message that comes first in a datagram (Channel Access Protocol Specification, "Commands").
use Rattle.std.specs.Prelude.{[]}
use Rattle.ca_header.specs.declared.header.Message.{Message}
use Rattle.ca_message.specs.Wire.{message}
use Rattle.ca_message.specs.declared.commands.TheConstants.{CA_PROTO_VERSION, MINOR_VERSION}

abbrev pub version : Message
version = message CA_PROTO_VERSION 0 MINOR_VERSION 0 0 []
