-- What a call does to the rows and to the count of looks at them.
use Rattle.std.specs.Prelude.{◌≡◌, ℕ}
use Rattle.channel_table.specs.Looks.{GoesOn, IsCounted}
use Rattle.gateway_rows.specs.CountedState.{CountedState}

-- a change that looked at so many rows at most
abbrev pub Looked : ℕ → CountedState → CountedState → Type 0
Looked n old new = IsCounted n old.count new.count

-- a change that looked at any number of rows
abbrev pub LookedOn : CountedState → CountedState → Type 0
LookedOn old new = GoesOn old.count new.count

-- a question that looked at so many rows at most
abbrev pub OnlyLooked : ℕ → CountedState → CountedState → Type 0
OnlyLooked n old new = (new.state ≡ old.state) × Looked n old new

-- a question that looked at any number of rows
abbrev pub OnlyLookedOn : CountedState → CountedState → Type 0
OnlyLookedOn old new = (new.state ≡ old.state) × LookedOn old new
