-- Of which names it was told that two servers answered them.
use Rattle.std.specs.Prelude.{ℕ, ◌+◌, ◌==◌, ◌&&◌, not, nat_lt, if◌then◌else◌, Bool, List, [], ◌∷◌, ◌++◌, drop, length}
use Rattle.gateway_state.specs.Variables.{is_among}

-- the names that were told of, the newest last, and how many were in the last hour in which one was
pub record ClashesState : Type 0 where
  pub told : List (List ℕ)
  pub hour : ℕ
  pub count : ℕ

-- how many were told of in an hour
abbrev pub told_in : ℕ → ClashesState → ℕ
told_in hour clashes = if clashes.hour == hour then clashes.count else 0

-- a name is told of once, and no more than 64 are in an hour
abbrev pub is_news : List ℕ → ℕ → ClashesState → Bool
is_news name hour clashes = nat_lt (told_in hour clashes) 64 && not (is_among clashes.told name)

-- 4,096 names are kept; one more, and the oldest goes
abbrev pub newest : List (List ℕ) → List (List ℕ)
newest names = if nat_lt 4096 (length names) then drop 1 names else names

abbrev pub with_told : List ℕ → ℕ → ClashesState → ClashesState
with_told name hour clashes = record { told = newest (clashes.told ++ name ∷ []); hour = hour; count = told_in hour clashes + 1 }

abbrev pub after_clash : List ℕ → ℕ → ClashesState → ClashesState
after_clash name hour clashes = if is_news name hour clashes then with_told name hour clashes else clashes
