-- The lines of the log that wait to be written, and how many were dropped.
use Rattle.std.specs.Prelude.{ℕ, ◌+◌, ◌-◌, ◌^◌, ◌&&◌, not, nat_le, nat_lt, min, if◌then◌else◌, List, [], ◌∷◌, ◌++◌, length, get_or, set, replicate, ◌==◌, Bool, true, false, Option, Some, None}
use Rattle.serve_state.specs.declared.log_queue.ToLog.{ToLog}
use Rattle.serve_state.specs.declared.log_queue.ToLog.TheVariants.{Line, Dropped}

-- the lines that wait, in order; how many were dropped and aren't told, and whether that is told next; and for each kind how many lines
-- were kept in this second
pub record LogState : Type 0 where
  pub lines : List (List ℕ)
  pub dropped : ℕ
  pub due : Bool
  pub counts : List ℕ

-- how many bytes lines have together
abbrev pub total : List (List ℕ) → ℕ
total [] = 0
total (line ∷ lines) = length line + total lines

-- 50 lines of this kind were kept in this second
abbrev pub is_over : ℕ → LogState → Bool
is_over kind queue = nat_le 50 (get_or queue.counts kind 0)

-- with this line no more than 1,024 wait, of no more than 262,144 bytes
abbrev pub has_room : List ℕ → LogState → Bool
has_room line queue = nat_lt (length queue.lines) 1024 && nat_le (length line + total queue.lines) 262144

abbrev pub with_line : ℕ → List ℕ → LogState → LogState
with_line kind line queue =
    record queue { lines = queue.lines ++ line ∷ []; counts = set queue.counts kind (get_or queue.counts kind 0 + 1) }

abbrev pub with_drop : LogState → LogState
with_drop queue = record queue { dropped = min (queue.dropped + 1) (2 ^ 64 - 1) }

abbrev pub next_line : List (List ℕ) → Option ToLog
next_line [] = None
next_line (line ∷ lines) = Some (Line line)

-- what is written next
abbrev pub next_told : LogState → Option ToLog
next_told queue = if queue.due then Some (Dropped queue.dropped) else next_line queue.lines

abbrev pub rest : List (List ℕ) → List (List ℕ)
rest [] = []
rest (line ∷ lines) = lines

abbrev pub after_next : LogState → LogState
after_next queue =
    if queue.due then record queue { dropped = 0; due = false } else record queue { lines = rest queue.lines }

abbrev pub is_idle : LogState → Bool
is_idle queue = not queue.due && (length queue.lines == 0)

-- a second has passed
abbrev pub after_second : LogState → LogState
after_second queue = record queue { due = nat_lt 0 queue.dropped; counts = replicate 256 0 }
