-- A datagram that asks for a name (Channel Access Protocol Specification, "Searching").
use Rattle.std.specs.Prelude.{ℕ, List, ◌++◌}
use Rattle.ca_header.specs.Header.{message_text}
use Rattle.ca_header.specs.declared.header.Message.{Message}
use Rattle.ca_message.specs.Padding.{nul_ended}
use Rattle.ca_message.specs.Wire.{message}
use Rattle.ca_message.specs.declared.commands.TheConstants.{CA_PROTO_SEARCH, MINOR_VERSION}
use Rattle.pv_search.specs.declared.asking.TheConstants.{DONT_REPLY}
use Rattle.pv_search.specs.Version.{version}

-- the search for a name, which is called by this CID
abbrev pub ask : List ℕ → ℕ → Message
ask name cid = message CA_PROTO_SEARCH DONT_REPLY MINOR_VERSION cid cid (nul_ended name)

abbrev pub ask_text : List ℕ → ℕ → List ℕ
ask_text name cid = message_text version ++ message_text (ask name cid)
