-- What a client searches for (Channel Access Protocol Specification, "Searching").
use Rattle.std.specs.Prelude.{ℕ, List, ◌==◌, if◌then◌else◌, Option, Some, None, Result, Ok, Err}
use Rattle.ca_header.specs.declared.header.Header.{Header}
use Rattle.ca_message.specs.Text.{name_in}
use Rattle.ca_message.specs.declared.commands.TheConstants.{CA_PROTO_SEARCH}
use Rattle.ca_message.specs.declared.request.RequestFault.{RequestFault}
use Rattle.pv_search.specs.declared.search.SearchRequest.{SearchRequest}

-- the search for the name that was read; none where none was
abbrev pub search_for : ℕ → Result (List ℕ) RequestFault → Option SearchRequest
search_for cid (Ok name) = Some (record { cid = cid; name = name })
search_for cid (Err fault) = None

-- the search that a client's message is; of its header only the command and the first CID are read
abbrev pub search_of : Header → List ℕ → Option SearchRequest
search_of head payload = if head.command == CA_PROTO_SEARCH then search_for head.p1 (name_in payload) else None
