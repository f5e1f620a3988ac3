-- Which asks are kept, under which CID, and which server answered each first.
use Rattle.std.specs.Prelude.{ℕ, ◌+◌, ◌-◌, ◌==◌, nat_lt, if◌then◌else◌, List, [], ◌∷◌, ◌++◌, drop, length, set, slice_get, Option, Some, None, option_map, option_and_then}
use Rattle.std.specs.Option.{option_or}
use Rattle.serve_state.specs.declared.asked.SentAsk.{SentAsk}

-- the last asks, the newest last, and the CID of the next
pub record AskedState : Type 0 where
  pub asks : List SentAsk
  pub next : ℕ

-- 65,536 asks are kept; one more, and the oldest goes
abbrev pub kept : List SentAsk → List SentAsk
kept asks = if length asks == 65536 then drop 1 asks else asks

-- after the last 32-bit number comes 1 again
abbrev pub next_cid : ℕ → ℕ
next_cid cid = if cid == 4294967295 then 1 else cid + 1

-- the first CID, where it may be any but 0
abbrev pub first_cid : ℕ → ℕ
first_cid cid = if cid == 0 then 1 else cid

-- an ask for this name, which nobody answered
abbrev pub new_ask : List ℕ → SentAsk
new_ask name = record { name = name; server = None }

abbrev pub with_ask : List ℕ → AskedState → AskedState
with_ask name asked = record { asks = kept asked.asks ++ new_ask name ∷ []; next = next_cid asked.next }

-- how many asks ago a CID was given out: 1 for the newest
abbrev pub age : ℕ → ℕ → ℕ
age cid next = if nat_lt cid next then next - cid else 4294967295 - cid + next

-- the place among so many of the ask that was made so many asks ago
abbrev pub place_of_age : ℕ → ℕ → Option ℕ
place_of_age age count = if nat_lt count age then None else Some (count - age)

-- the place of the ask under a CID
abbrev pub place_under : ℕ → AskedState → Option ℕ
place_under cid asked = if cid == 0 then None else place_of_age (age cid asked.next) (length asked.asks)

abbrev pub ask_under : ℕ → AskedState → Option SentAsk
ask_under cid asked = option_and_then (slice_get asked.asks) (place_under cid asked)

-- the name that was asked for under a CID
abbrev pub name_under : ℕ → AskedState → Option (List ℕ)
name_under cid asked = option_map (λ (ask : SentAsk). ask.name) (ask_under cid asked)

-- the server that answered, where it is not this one
abbrev pub not_this : ℕ → Option ℕ → Option ℕ
not_this server None = None
not_this server (Some first) = if first == server then None else Some first

-- another server than this one, which answered the ask under a CID first
abbrev pub other_server : ℕ → ℕ → AskedState → Option ℕ
other_server cid server asked = option_and_then (λ (ask : SentAsk). not_this server ask.server) (ask_under cid asked)

-- the first answer stands
abbrev pub answered : ℕ → SentAsk → SentAsk
answered server ask = record ask { server = option_or ask.server (Some server) }

-- an ask at a place
abbrev pub put_at : List SentAsk → ℕ → Option SentAsk → List SentAsk
put_at asks place None = asks
put_at asks place (Some ask) = set asks place ask

abbrev pub answered_at : ℕ → List SentAsk → Option ℕ → List SentAsk
answered_at server asks None = asks
answered_at server asks (Some place) = put_at asks place (option_map (answered server) (slice_get asks place))

-- the server answered the ask under a CID
abbrev pub with_answer : ℕ → ℕ → AskedState → AskedState
with_answer cid server asked = record asked { asks = answered_at server asked.asks (place_under cid asked) }
