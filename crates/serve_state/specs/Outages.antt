-- Of which servers it was told that they can't be reached. The list has a place for each number from 0 to 1,024.
use Rattle.std.specs.Prelude.{ℕ, Bool, true, false, not, nat_lt, if◌then◌else◌, List, get_or, set}
use Rattle.serve_state.specs.declared.outages.Try.{Try}
use Rattle.serve_state.specs.declared.outages.Try.TheVariants.{Ordered, Repeated}

-- it was told since the server was last connected; never of a number that no server has
abbrev pub is_told : ℕ → List Bool → Bool
is_told number told = get_or told number false

abbrev pub marked : ℕ → Bool → List Bool → List Bool
marked number is told = if nat_lt number 1025 then set told number is else told

-- whether it is news that a server can't be reached: to who ordered the try always, else where it wasn't told
abbrev pub is_news : Try → ℕ → List Bool → Bool
is_news Ordered number told = true
is_news Repeated number told = not (is_told number told)
