-- How far words are read, and what parts those that are left.
use Rattle.std.specs.Prelude.{ℕ, Bool, ◌&&◌, ◌||◌, List, [], filter, Option, Some, None}
use Rattle.std.specs.List.{slice_split}
use Rattle.pvlist.specs.Words.{is_blank, is_comma, is_word}

-- a blank, and a comma too where commas part words
abbrev pub is_separator : Bool → ℕ → Bool
is_separator commas b = is_blank b || (commas && is_comma b)

-- the parts of a text between separators
abbrev pub parts : Bool → Option (List ℕ) → List (List ℕ)
parts commas None = []
parts commas (Some text) = slice_split (is_separator commas) text

-- those that are not empty
abbrev pub words_left : Bool → Option (List ℕ) → List (List ℕ)
words_left commas text = filter is_word (parts commas text)
