-- How often an order is performed that nobody writes. Time is counted in looks, of which there are four a second.
use Rattle.std.specs.Prelude.{◌≡◌, ℕ, zero, suc, ◌+◌, ◌-◌, ◌*◌, ◌%◌, ◌==◌, ◌&&◌, nat_le, if◌then◌else◌, Bool, List, Option, Some, None, option_and_then}
use Rattle.decimal_text.specs.Numbers.{number_of}
use Rattle.serve_state.specs.declared.rhythm.Seconds.{Seconds}

-- a number of seconds from 1 to a day
abbrev pub within_a_day : ℕ → Option Seconds
within_a_day n = if nat_le 1 n && nat_le n 86400 then Some (record { number = n }) else None

-- the number of seconds that decimal digits write
abbrev pub seconds_of : List ℕ → Option Seconds
seconds_of digits = option_and_then within_a_day (number_of 32 digits)

-- how many looks a period has, and how many are left of the one that runs
pub record RhythmState : Type 0 where
  pub period : ℕ
  pub left : ℕ

abbrev pub beginning : ℕ → RhythmState
beginning seconds = record { period = 4 * seconds; left = 4 * seconds }

-- the order is due at the next look, which is the last of its period
abbrev pub is_due : RhythmState → Bool
is_due rhythm = nat_le rhythm.left 1

abbrev pub after_look : RhythmState → RhythmState
after_look rhythm = record rhythm { left = if is_due rhythm then rhythm.period else rhythm.left - 1 }

-- after so many looks
abbrev pub after_looks : ℕ → RhythmState → RhythmState
after_looks zero rhythm = rhythm
after_looks (suc n) rhythm = after_look (after_looks n rhythm)

-- the look after n others is due exactly where its number, n + 1, is a multiple of the period's looks
abbrev pub IsDueEachPeriod : ℕ → Type 0
IsDueEachPeriod seconds = (n : ℕ) → is_due (after_looks n (beginning seconds)) ≡ ((n + 1) % (4 * seconds) == 0)
