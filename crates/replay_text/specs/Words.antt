-- The words of a line.
use Rattle.std.specs.Prelude.{ℕ, Bool, ◌==◌, List, [], ◌∷◌, Option, Some, None}
use Rattle.std.specs.List.{slice_split}

-- b' '
abbrev pub is_blank : ℕ → Bool
is_blank b = b == 32

-- the words of what is left of a line, if something is
abbrev pub words_of : Option (List ℕ) → List (List ℕ)
words_of None = []
words_of (Some line) = slice_split is_blank line

-- the first word, and the words after it
abbrev pub first : List (List ℕ) → Option (List ℕ)
first [] = None
first (word ∷ words) = Some word

abbrev pub after_first : List (List ℕ) → List (List ℕ)
after_first [] = []
after_first (word ∷ words) = words

-- the words where there are so many: none, one, two or four
abbrev pub no_word : List (List ℕ) → Option Unit
no_word [] = Some tt
no_word (word ∷ words) = None

abbrev pub one_word : List (List ℕ) → Option (List ℕ)
one_word (word ∷ []) = Some word
one_word words = None

abbrev pub two_words : List (List ℕ) → Option (List ℕ × List ℕ)
two_words (first ∷ second ∷ []) = Some (first, second)
two_words words = None

abbrev pub four_words : List (List ℕ) → Option ((List ℕ × List ℕ) × (List ℕ × List ℕ))
four_words (first ∷ second ∷ third ∷ fourth ∷ []) = Some ((first, second), (third, fourth))
four_words words = None
