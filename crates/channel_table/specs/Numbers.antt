-- Numbers in rising order.
use Rattle.std.specs.Prelude.{◌≡◌, ℕ, ◌<◌, ◌≤◌, List, [], ◌∷◌, length, Bool, not, nat_lt, ◌==◌, if◌then◌else◌, slice_index_or}

-- the numbers rise, so none comes twice
abbrev pub IsRising : List ℕ → Type 0
IsRising numbers = (i j : ℕ) → i < j → j < length numbers → slice_index_or numbers i 0 < slice_index_or numbers j 0

-- a lower number
abbrev pub is_lower : ℕ → ℕ → Bool
is_lower number other = nat_lt other number

-- the same number
abbrev pub is_number : ℕ → ℕ → Bool
is_number number other = other == number

-- another number
abbrev pub is_not_number : ℕ → ℕ → Bool
is_not_number number other = not (is_number number other)

-- the numbers with one more, behind those that are lower; the same ones where it is there
abbrev pub with_number : ℕ → List ℕ → List ℕ
with_number number [] = number ∷ []
with_number number (other ∷ others) =
    if nat_lt other number then other ∷ with_number number others
    else if other == number then other ∷ others
    else number ∷ other ∷ others

-- the number stands at this place
pub record StandsAt (number : ℕ) (numbers : List ℕ) (place : ℕ) : Type 0 where
  pub within : place < length numbers
  pub is : slice_index_or numbers place 0 ≡ number

-- the number would go to this place: lower ones stand before it, and higher ones from it on
pub record GoesTo (number : ℕ) (numbers : List ℕ) (place : ℕ) : Type 0 where
  pub within : place ≤ length numbers
  pub lower : (i : ℕ) → i < place → slice_index_or numbers i 0 < number
  pub higher : (i : ℕ) → place ≤ i → i < length numbers → number < slice_index_or numbers i 0
