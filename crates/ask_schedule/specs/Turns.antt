-- How newcomers stand.
use Rattle.std.specs.Prelude.{◌≡◌, ℕ, ◌<◌, ◌≤◌, nat_eq, true, if◌then◌else◌, List, [], ◌∷◌, Option, Some, None, length}
use Rattle.ask_schedule.specs.declared.row.Newcomer.{Newcomer}
use Rattle.ask_schedule.specs.Queue.{is_of}

-- none is of a lap before this one, and each of no later one than the next
abbrev pub InLapsFrom : ℕ → List Newcomer → Type 0
InLapsFrom low [] = Unit {0}
InLapsFrom low (row ∷ rows) = (low ≤ row.lap) × InLapsFrom row.lap rows

-- each row of the host is of a later lap
abbrev pub AreLater : ℕ → ℕ → List Newcomer → Type 0
AreLater host lap [] = Unit {0}
AreLater host lap (row ∷ rows) = (is_of host row ≡ true → lap < row.lap) × AreLater host lap rows

-- no two rows of a host are of the same lap
abbrev pub TakeTurns : List Newcomer → Type 0
TakeTurns [] = Unit {0}
TakeTurns (row ∷ rows) = AreLater row.host row.lap rows × TakeTurns rows

-- the rows of a queue with this limit, from which a name of this lap was taken last
pub record AreNewcomers (limit lap : ℕ) (rows : List Newcomer) : Type 0 where
  pub ordered : InLapsFrom lap rows
  pub apart : TakeTurns rows
  pub within : length rows ≤ limit

-- the last lap of a host, unless it is this one
abbrev pub unless : ℕ → Option ℕ → Option ℕ
unless lap None = None
unless lap (Some last) = if nat_eq last lap then None else Some last
