-- Searches that couldn't be answered when they were made, and are answered once they can be. Times are milliseconds of a clock that
-- doesn't go back.
use Rattle.std.specs.Prelude.{ℕ, ◌-◌, ◌==◌, ◌&&◌, not, nat_lt, if◌then◌else◌, Bool, List, [], ◌∷◌, ◌++◌, length, filter, drop}
use Rattle.std.specs.List.{list_any}
use Rattle.rows.specs.Rows.{remove_first}

-- a search: the host and the port that its reply goes to, its CID and its name, and when it was made
pub record LateState : Type 0 where
  pub host : ℕ
  pub port : ℕ
  pub cid : ℕ
  pub name : List ℕ
  pub since : ℕ

abbrev pub is_of_host : ℕ → LateState → Bool
is_of_host host row = row.host == host

-- its reply goes there
abbrev pub is_at : ℕ → ℕ → LateState → Bool
is_at host port row = (row.host == host) && (row.port == port)

-- the search that has this address and this CID
abbrev pub is_search : ℕ → ℕ → ℕ → LateState → Bool
is_search host port cid row = is_at host port row && (row.cid == cid)

-- how many are kept of a host
abbrev pub late_of : ℕ → List LateState → ℕ
late_of host rows = length (filter (is_of_host host) rows)

-- of a search that was made twice the later one is kept
abbrev pub without_older : ℕ → ℕ → ℕ → List LateState → List LateState
without_older host port cid rows =
    if nat_lt 1 (length (filter (is_search host port cid) rows)) then remove_first (is_search host port cid) rows else rows

-- 1,024 are kept of a host, and 4,096 in all: where there is one more the oldest goes, of that host or of all
abbrev pub within : ℕ → List LateState → List LateState
within host rows =
    if nat_lt 1024 (late_of host rows) then remove_first (is_of_host host) rows
    else if nat_lt 4096 (length rows) then drop 1 rows
    else rows

-- the searches that are kept, the latest last, with one more
abbrev pub with_late : LateState → List LateState → List LateState
with_late row rows = within row.host (without_older row.host row.port row.cid (rows ++ row ∷ []))

-- a search is kept for 5 seconds
abbrev pub is_young : ℕ → LateState → Bool
is_young now row = nat_lt (now - row.since) 5000

abbrev pub still_young : ℕ → List LateState → List LateState
still_young now rows = filter (is_young now) rows

-- a reply to this address has an answer under one of these CIDs for it
abbrev pub is_answered : ℕ → ℕ → List ℕ → LateState → Bool
is_answered host port cids row = is_at host port row && list_any (λ cid. cid == row.cid) cids

abbrev pub is_unanswered : ℕ → ℕ → List ℕ → LateState → Bool
is_unanswered host port cids row = not (is_answered host port cids row)

-- those that the reply doesn't answer
abbrev pub unanswered : ℕ → ℕ → List ℕ → List LateState → List LateState
unanswered host port cids rows = filter (is_unanswered host port cids) rows
