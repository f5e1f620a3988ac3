-- Lists of names.
use Rattle.std.specs.Prelude.{◌≡◌, ℕ, Bool, false, bytes_eq, if◌then◌else◌, List, [], ◌∷◌, ◌++◌}
use Rattle.std.specs.List.{list_any}

-- the name is one of them
abbrev pub is_among : List (List ℕ) → List ℕ → Bool
is_among names name = list_any (λ other. bytes_eq other name) names

-- each of them is there once
abbrev pub AreApart : List (List ℕ) → Type 0
AreApart [] = Unit {0}
AreApart (name ∷ names) = (is_among names name ≡ false) × AreApart names

-- the names with this one, which comes last if it wasn't there
abbrev pub with_once : List ℕ → List (List ℕ) → List (List ℕ)
with_once name names = if is_among names name then names else names ++ name ∷ []
