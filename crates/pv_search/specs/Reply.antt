-- The reply to a client's datagram (Channel Access Protocol Specification, "Searching").
use Rattle.std.specs.Prelude.{ℕ, List, [], ◌++◌, length, flat_map, ◌==◌, if◌then◌else◌}
use Rattle.ca_header.specs.Header.{message_text}
use Rattle.ca_header.specs.declared.header.Message.{Message}
use Rattle.ca_message.specs.ToClient.{client_message}
use Rattle.ca_message.specs.declared.to_client.ToClient.TheVariants.{Search}
use Rattle.pv_search.specs.Version.{version}

-- the name that was asked for by this CID is served by the sender, at this TCP port
abbrev pub found : ℕ → ℕ → Message
found port cid = client_message (Search cid port)

-- the datagram that says so of each; nothing is sent where there is none
abbrev pub search_reply : ℕ → List ℕ → List ℕ
search_reply port cids =
    if length cids == 0 then [] else message_text version ++ flat_map (λ (cid : ℕ). message_text (found port cid)) cids
