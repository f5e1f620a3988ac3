-- Datagrams that ask for several names (Channel Access Protocol Specification, "Searching").
use Rattle.std.specs.Prelude.{◌≡◌, ℕ, ◌<◌, ◌≤◌, Bool, true, false, List, ◌++◌, length, take, flat_map, map}
use Rattle.ca_header.specs.Header.{message_text}
use Rattle.pv_search.specs.declared.asks.NameAsk.{NameAsk}
use Rattle.pv_search.specs.declared.asks.AskDatagram.{AskDatagram}
use Rattle.pv_search.specs.declared.asks.TheConstants.{ASK_LIMIT}
use Rattle.pv_search.specs.declared.search.SearchRequest.{SearchRequest}
use Rattle.pv_search.specs.Ask.{ask}
use Rattle.pv_search.specs.Version.{version}

-- the version, and then the search for each name under its own CID
abbrev pub asks_text : List NameAsk → List ℕ
asks_text asks = message_text version ++ flat_map (λ (a : NameAsk). message_text (ask a.name a.cid)) asks

-- the datagram asks for the first so many of these, and for one more it would be too long
pub record IsAskDatagram (asks : List NameAsk) (datagram : AskDatagram) : Type 0 where
  pub text : datagram.text ≡ asks_text (take datagram.asked asks)
  pub within : datagram.asked ≤ length asks
  pub fits : length datagram.text ≤ ASK_LIMIT
  pub most : (n : ℕ) → n ≤ length asks → length (asks_text (take n asks)) ≤ ASK_LIMIT → n ≤ datagram.asked

-- the message stands behind what was there if it fits; else nothing changed
abbrev pub IsAddedIf : Bool → List ℕ → List ℕ → List ℕ → Type 0
IsAddedIf true old message new = (new ≡ old ++ message) × (length new ≤ ASK_LIMIT)
IsAddedIf false old message new = (new ≡ old) × (ASK_LIMIT < length (old ++ message))

-- the searches that a server reads
abbrev pub asked_searches : List NameAsk → List SearchRequest
asked_searches asks = map (λ (a : NameAsk). record { cid = a.cid; name = a.name }) asks
