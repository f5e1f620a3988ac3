-- When a file that somebody may be writing has been read: two readings, one after the other, agree, and it was not written between.
use Rattle.std.specs.Prelude.{ℕ, ◌-◌, ◌==◌, if◌then◌else◌, Bool, false, Option, Some, None}
use Rattle.serve_state.specs.FileText.{TextState, same_text}
use Rattle.serve_state.specs.declared.steady.FileReading.{FileReading}
use Rattle.serve_state.specs.declared.steady.FileReading.TheVariants as reading

-- the last reading, and how many more may disagree
pub record SteadyState : Type 0 where
  pub last : Option TextState
  pub left : ℕ

abbrev pub is_last : TextState → Option TextState → Bool
is_last text (Some last) = same_text last text
is_last text None = false

abbrev pub agrees : TextState → SteadyState → Bool
agrees text steady = is_last text steady.last

-- what the next reading tells, which has this text
abbrev pub reading_of : TextState → SteadyState → FileReading
reading_of text steady =
    if agrees text steady then reading.Steady text
    else if steady.left - 1 == 0 then reading.Unsteady
    else reading.Again

abbrev pub after_reading : TextState → SteadyState → SteadyState
after_reading text steady = if agrees text steady then steady else record { last = Some text; left = steady.left - 1 }
