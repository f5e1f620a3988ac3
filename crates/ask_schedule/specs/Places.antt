-- How rows stand, and how they are found by their names.
use Rattle.std.specs.Prelude.{◌≡◌, ℕ, ◌<◌, ◌≤◌, List, [], ◌∷◌, Option, Some, None, length}
use Rattle.std.specs.List.{filter, find, remove}
use Rattle.std.specs.Option.{option_map}
use Rattle.ask_schedule.specs.declared.row.ScheduleRow.{ScheduleRow}
use Rattle.ask_schedule.specs.Plan.{again, has_name, lacks_name, placed}

-- none is due before this look, and each no later than the next
abbrev pub InOrderFrom : ℕ → List ScheduleRow → Type 0
InOrderFrom low [] = Unit {0}
InOrderFrom low (row ∷ rows) = (low ≤ row.due) × InOrderFrom row.due rows

abbrev pub InOrder : List ScheduleRow → Type 0
InOrder rows = InOrderFrom 0 rows

-- when a name is due, if it has a row
abbrev pub due_of : List ℕ → List ScheduleRow → Option ℕ
due_of name rows = option_map (λ (row : ScheduleRow). row.due) (find (has_name name) rows)

-- no two rows are of the same name
abbrev pub AreApart : List ScheduleRow → Type 0
AreApart [] = Unit {0}
AreApart (row ∷ rows) = (find (has_name row.name) rows ≡ None) × AreApart rows

-- the rows of a schedule with this limit
pub record AreRows (limit : ℕ) (rows : List ScheduleRow) : Type 0 where
  pub ordered : InOrder rows
  pub apart : AreApart rows
  pub within : length rows ≤ limit

-- the rows, but that the first one was asked for
abbrev pub first_asked : ℕ → List ScheduleRow → List ScheduleRow
first_asked now [] = []
first_asked now (row ∷ rows) = placed (again now row) rows

-- the row of the name stands there; or there is none
abbrev pub IfSomeThere : List ℕ → List ScheduleRow → Option ℕ → Type 0
IfSomeThere name rows (Some place) = (place < length rows) × (remove rows place ≡ filter (lacks_name name) rows)
IfSomeThere name rows None = ⊥
