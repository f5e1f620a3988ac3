-- How rows of last messages are found.
use Rattle.std.specs.Prelude.{◌≡◌, ℕ, List, [], ◌∷◌, Bool, false, ◌==◌, Option, Some, None, is_some, map}
use Rattle.std.specs.List.{find, list_any}
use Rattle.std.specs.Option.{option_map}
use Rattle.row_index.specs.declared.key.Key.{Key}
use Rattle.row_index.specs.Rows.{row_of, value_at}
use Rattle.named_rows.specs.Indexes.{keyed}
use Rattle.link_table.specs.LinkIndex.{key}
use Rattle.value_cache.specs.Held.{Held, nothing}
use Rattle.gateway_state.specs.declared.cached.LastMessage.{LastMessage}
use Rattle.gateway_state.specs.CachedRows.{is_cached_of}

-- the key of a row: the CID of its link
abbrev pub latest_key : LastMessage → Key
latest_key row = key row.cid 0

-- the rows, each under its key
abbrev pub AreLatest : List (Key × LastMessage) → Type 0
AreLatest entries = entries ≡ keyed latest_key (map row_of entries)

-- no two rows are of the same link
abbrev pub AreApart : List LastMessage → Type 0
AreApart [] = Unit {0}
AreApart (row ∷ later) = (list_any (is_cached_of row.cid) later ≡ false) × AreApart later

-- a link's row before anything is told
abbrev pub bare : ℕ → ℕ → LastMessage
bare server cid = record { server = server; cid = cid; held = nothing }

-- the row with what is held changed
abbrev pub with_held : (Held → Held) → LastMessage → LastMessage
with_held change row = record row { held = change row.held }

-- what is held as it is
abbrev pub unchanged : Held → Held
unchanged held = held

-- the server of a row
abbrev pub server_in : Option LastMessage → Option ℕ
server_in message = option_map (λ (row : LastMessage). row.server) message

-- the server of a link's row
abbrev pub server_of : ℕ → List LastMessage → Option ℕ
server_of cid rows = server_in (find (is_cached_of cid) rows)

-- it is this server
abbrev pub is_server : ℕ → Option ℕ → Bool
is_server server None = false
is_server server (Some other) = other == server

-- each entry holds the ID of its key
abbrev pub HoldIds : List (Key × ℕ) → Type 0
HoldIds [] = Unit {0}
HoldIds (entry ∷ later) = (entry.0.id ≡ entry.1) × HoldIds later

-- a CID is listed under a server
abbrev pub is_listed : ℕ → ℕ → List (Key × ℕ) → Bool
is_listed server cid listed = is_some (value_at (key server cid) listed)

-- a CID is listed under a server exactly where the row of its link is of that server
pub record AreListed (rows : List LastMessage) (listed : List (Key × ℕ)) : Type 0 where
  pub ids : HoldIds listed
  pub exact : (server cid : ℕ) → is_listed server cid listed ≡ is_server server (server_of cid rows)
