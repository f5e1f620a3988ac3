-- Which names are asked for first, where hosts look for more than can be asked for at once: a lap has one name of each host.
use Rattle.std.specs.Prelude.{ℕ, ◌+◌, nat_eq, nat_le, nat_lt, Bool, if◌then◌else◌, List, [], ◌∷◌, take, drop, Option, Some, None}
use Rattle.std.specs.Option.{option_or, unwrap_or}
use Rattle.ask_schedule.specs.declared.row.Newcomer.{Newcomer}
use Rattle.ask_schedule.specs.declared.row.TheConstants.{LAST_LAP}

-- what a queue knows: how many names it takes, the lap of the name that was taken last, and a row for each name that waits,
-- in the order in which they are taken
pub record Queue : Type 0 where
  pub limit : ℕ
  pub lap : ℕ
  pub rows : List Newcomer

abbrev pub newcomer_name : Newcomer → List ℕ
newcomer_name row = row.name

-- the row of this host
abbrev pub is_of : ℕ → Newcomer → Bool
is_of host row = nat_eq host row.host

-- the row of this lap, or of one before it
abbrev pub is_by : ℕ → Newcomer → Bool
is_by lap row = nat_le row.lap lap

-- ---- a name comes

-- the lap of the host's last name that waits
abbrev pub last_lap : ℕ → List Newcomer → Option ℕ
last_lap host [] = None
last_lap host (row ∷ rows) = option_or (last_lap host rows) (if is_of host row then Some row.lap else None)

-- the lap of the next name of a host: the one after its last name's, or, where it has none, after that of the name that was taken last
abbrev pub next_lap : ℕ → Queue → ℕ
next_lap host queue = unwrap_or (last_lap host queue.rows) queue.lap + 1

-- the rows with one more, which stands behind those of no later lap
abbrev pub lined_up : Newcomer → List Newcomer → List Newcomer
lined_up row [] = row ∷ []
lined_up row (first ∷ rows) = if nat_lt row.lap first.lap then row ∷ first ∷ rows else first ∷ lined_up row rows

abbrev pub newcomer : ℕ → List ℕ → Queue → Newcomer
newcomer host name queue = record { host = host; name = name; lap = next_lap host queue }

-- where there is a row too many, the last one goes. What has no lap doesn't come
abbrev pub with_newcomer : ℕ → List ℕ → Queue → Queue
with_newcomer host name queue =
    if nat_le (next_lap host queue) LAST_LAP then record queue { rows = take queue.limit (lined_up (newcomer host name queue) queue.rows) } else queue

-- ---- names are taken

-- the lap of the last of these rows, or else this one
abbrev pub lap_after : ℕ → List Newcomer → ℕ
lap_after lap [] = lap
lap_after lap (row ∷ rows) = lap_after row.lap rows

-- without its first names, at most so many
abbrev pub without_first : ℕ → Queue → Queue
without_first most queue = record queue { lap = lap_after queue.lap (take most queue.rows); rows = drop most queue.rows }
