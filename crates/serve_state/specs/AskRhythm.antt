-- When it is found out which names are to be asked for. Times are milliseconds of a clock that doesn't go back.
use Rattle.std.specs.Prelude.{◌≡◌, ℕ, zero, suc, ◌+◌, ◌-◌, ◌==◌, ◌<◌, ◌≤◌, nat_lt, if◌then◌else◌, Bool, true, false, Option, Some, None, option_map}

-- whether somebody wants it, when it was done last, and whether it is done each second though nobody does
pub record AskRhythmState : Type 0 where
  pub wanted : Bool
  pub last : Option ℕ
  pub repeats : Bool

-- how long after the last time it may be done, or has to be
abbrev pub pause_of : AskRhythmState → Option ℕ
pause_of rhythm = if rhythm.wanted then Some 100 else if rhythm.repeats then Some 1000 else None

-- so much of a pause is left
abbrev pub left_of : ℕ → Option ℕ → ℕ → ℕ
left_of now None pause = 0
left_of now (Some last) pause = pause - (now - last)

-- how long from now it isn't done yet; none where nobody wants it
abbrev pub wait_of : ℕ → AskRhythmState → Option ℕ
wait_of now rhythm = option_map (left_of now rhythm.last) (pause_of rhythm)

abbrev pub is_none_left : Option ℕ → Bool
is_none_left None = false
is_none_left (Some left) = left == 0

abbrev pub is_due : ℕ → AskRhythmState → Bool
is_due now rhythm = is_none_left (wait_of now rhythm)

abbrev pub wanting : AskRhythmState → AskRhythmState
wanting rhythm = record rhythm { wanted = true }

-- it is done now
abbrev pub done_at : ℕ → AskRhythmState → AskRhythmState
done_at now rhythm = record rhythm { wanted = false; last = Some now }

abbrev pub after_look : ℕ → AskRhythmState → AskRhythmState
after_look now rhythm = if is_due now rhythm then done_at now rhythm else rhythm

-- nobody has to want it twice: it is due from the end of the pause on
abbrev pub IsHeard : Type 0
IsHeard = (rhythm : AskRhythmState) (last now : ℕ) → rhythm.last ≡ Some last → last + 100 ≤ now → is_due now (wanting rhythm) ≡ true

-- and never before, whoever wants it how often
abbrev pub AreApart : Type 0
AreApart = (rhythm : AskRhythmState) (last now : ℕ) → rhythm.last ≡ Some last → now < last + 100 → is_due now rhythm ≡ false

-- the look for which datagrams were counted, and how many were sent in it
pub record BudgetState : Type 0 where
  pub look : ℕ
  pub sent : ℕ

-- how many were sent in a look
abbrev pub sent_in : ℕ → BudgetState → ℕ
sent_in look budget = if budget.look == look then budget.sent else 0

-- 4 datagrams may be sent to each server in a look
abbrev pub may_send : ℕ → BudgetState → Bool
may_send look budget = nat_lt (sent_in look budget) 4

abbrev pub after_send : ℕ → BudgetState → BudgetState
after_send look budget = if may_send look budget then record { look = look; sent = sent_in look budget + 1 } else budget

-- how many of so many datagrams are sent in a look, one after the other
abbrev pub sent_of : ℕ → ℕ → BudgetState → ℕ
sent_of zero look budget = 0
sent_of (suc n) look budget = if may_send look budget then suc (sent_of n look (after_send look budget)) else sent_of n look (after_send look budget)

abbrev pub AtMostFour : Type 0
AtMostFour = (n look : ℕ) (budget : BudgetState) → sent_of n look budget ≤ 4
