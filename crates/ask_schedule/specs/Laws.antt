-- What the laws of schedules and of newcomers say.
use Rattle.std.specs.Prelude.{◌≡◌, ℕ, not, true, List}
use Rattle.std.specs.List.{filter, list_any}
use Rattle.ask_schedule.specs.declared.row.Newcomer.{Newcomer}
use Rattle.ask_schedule.specs.declared.row.ScheduleRow.{ScheduleRow}
use Rattle.ask_schedule.specs.Plan.{has_name}
use Rattle.ask_schedule.specs.Queue.{is_by}

-- the name is among those of the rows
abbrev pub IsAskedFor : List ℕ → List ScheduleRow → Type 0
IsAskedFor name rows = list_any (has_name name) rows ≡ true

-- the rows of this lap and of those before it
abbrev pub ahead_of : ℕ → List Newcomer → List Newcomer
ahead_of lap rows = filter (is_by lap) rows

-- the others
abbrev pub behind : ℕ → List Newcomer → List Newcomer
behind lap rows = filter (λ row. not (is_by lap row)) rows
