-- Which names are asked for, and when. Time is counted in looks.
use Rattle.std.specs.Prelude.{ℕ, ◌+◌, ◌^◌, min, nat_le, nat_lt, Bool, not, bytes_eq, if◌then◌else◌, List, [], ◌∷◌, length, map, take, drop}
use Rattle.std.specs.List.{filter, list_any}
use Rattle.ask_schedule.specs.declared.schedule.Added.{Added}
use Rattle.ask_schedule.specs.declared.schedule.Added.TheVariants.{New, Known, Full}
use Rattle.ask_schedule.specs.declared.row.ScheduleRow.{ScheduleRow}
use Rattle.ask_schedule.specs.declared.row.TheConstants.{LAST_LOOK, MOST_TRIES}

-- what a schedule knows: how many names it takes, and a row for each, in the order in which they are due
pub record Plan : Type 0 where
  pub limit : ℕ
  pub rows : List ScheduleRow

abbrev pub name_of : ScheduleRow → List ℕ
name_of row = row.name

-- the row of this name
abbrev pub has_name : List ℕ → ScheduleRow → Bool
has_name name row = bytes_eq name row.name

-- the row of another
abbrev pub lacks_name : List ℕ → ScheduleRow → Bool
lacks_name name row = not (has_name name row)

-- ---- the order

-- the rows with one more, which stands behind those that are due no later
abbrev pub placed : ScheduleRow → List ScheduleRow → List ScheduleRow
placed row [] = row ∷ []
placed row (first ∷ rows) = if nat_lt row.due first.due then row ∷ first ∷ rows else first ∷ placed row rows

-- the same of several, one after the other
abbrev pub all_placed : List ScheduleRow → List ScheduleRow → List ScheduleRow
all_placed [] rows = rows
all_placed (row ∷ more) rows = all_placed more (placed row rows)

-- ---- a name comes

-- a name that was never asked for is due at once, before all that were
abbrev pub fresh : List ℕ → ScheduleRow
fresh name = record { name = name; tries = 0; due = 0 }

abbrev pub answer_to : List ℕ → Plan → Added
answer_to name plan = if list_any (has_name name) plan.rows then Known else if nat_le plan.limit (length plan.rows) then Full else New

abbrev pub rows_after : Added → List ℕ → List ScheduleRow → List ScheduleRow
rows_after New name rows = placed (fresh name) rows
rows_after Known name rows = rows
rows_after Full name rows = rows

-- ---- a look

-- its look has come
abbrev pub is_due : ℕ → ScheduleRow → Bool
is_due now row = nat_le row.due now

-- what is asked for: the first of those that are due, and at most so many
abbrev pub asked : ℕ → ℕ → List ScheduleRow → List ScheduleRow
asked now most rows = take most (filter (is_due now) rows)

-- when a name is due that is asked for now, after so many tries
abbrev pub due_after : ℕ → ℕ → ℕ
due_after now tries = min (now + 2 ^ min tries MOST_TRIES) LAST_LOOK

-- its row then
abbrev pub again : ℕ → ScheduleRow → ScheduleRow
again now row = record { name = row.name; tries = min (row.tries + 1) MOST_TRIES; due = due_after now row.tries }

-- the rows that are left, and behind those that are due no later the ones that were asked for
abbrev pub after_asking : ℕ → List ScheduleRow → List ScheduleRow → List ScheduleRow
after_asking now gone rows = all_placed (map (again now) gone) (drop (length gone) rows)

abbrev pub left : ℕ → ℕ → List ScheduleRow → List ScheduleRow
left now most rows = after_asking now (asked now most rows) rows

-- ---- news

-- no row has more tries than these, and none is due later than if it was asked for now after so many
abbrev pub sooner : ℕ → ℕ → ScheduleRow → ScheduleRow
sooner now tries row = record { name = row.name; tries = min row.tries tries; due = min row.due (due_after now tries) }
