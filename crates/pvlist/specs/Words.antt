-- The words of a line of a rule file (user's guide, PVLIST).
use Rattle.std.specs.Prelude.{ℕ, Bool, ◌==◌, ◌||◌, nat_lt, List, [], ◌∷◌, length, filter, Option, Some, None}
use Rattle.std.specs.List.{before_first, flat_map, slice_split}

-- a blank (32) or a tab (9)
abbrev pub is_blank : ℕ → Bool
is_blank b = b == 32 || b == 9

abbrev pub is_comma : ℕ → Bool
is_comma b = b == 44

abbrev pub is_word : List ℕ → Bool
is_word part = nat_lt 0 (length part)

-- the line without its comment, which a `#` (35) begins
abbrev pub uncommented : List ℕ → List ℕ
uncommented line = before_first (λ b. b == 35) line

-- the parts of a line between blanks that are not empty
abbrev pub words : List ℕ → List (List ℕ)
words line = filter is_word (slice_split is_blank (uncommented line))

-- the words that stand between the commas of words
abbrev pub between_commas : List (List ℕ) → List (List ℕ)
between_commas all = filter is_word (flat_map (slice_split is_comma) all)

-- the first of them; nothing where there is none
abbrev pub first_word : List (List ℕ) → List ℕ
first_word [] = []
first_word (word ∷ rest) = word

-- the first of them, where there is one
abbrev pub next_word : List (List ℕ) → Option (List ℕ)
next_word [] = None
next_word (word ∷ rest) = Some word
