-- Rows of a rule file whose patterns are written as if a group began without a backslash.
use Rattle.std.specs.Prelude.{ℕ, ◌+◌, Bool, false, ◌&&◌, nat_lt, List, ◌∷◌, position, Option, is_some}
use Rattle.std.specs.Option.{option_map}
use Rattle.std.specs.Str.Lines.{lines}
use Rattle.pvlist.specs.Captures.{count_outside}
use Rattle.pvlist.specs.Keywords.{keyword_of}
use Rattle.pvlist.specs.Syntax.{is_grouping}
use Rattle.pvlist.specs.Words.{words}

-- how many `(`, `)` and `|` stand outside brackets with no backslash before them as an escape, by the bytes of the pattern
abbrev pub bare_count : List ℕ → ℕ
bare_count pattern = count_outside is_grouping (λ _. false) pattern

-- there is one
abbrev pub has_bare_group : List ℕ → Bool
has_bare_group pattern = nat_lt 0 (bare_count pattern)

-- the words of a line are those of a row, and its pattern has one; the row may be faulty
abbrev pub is_bare_row : List (List ℕ) → Bool
is_bare_row (pattern ∷ verb ∷ rest) = is_some (keyword_of verb) && has_bare_group pattern
is_bare_row _ = false

-- the number of the first such line of a file, counted from 1
abbrev pub first_bare_group : List ℕ → Option ℕ
first_bare_group text = option_map (λ place. place + 1) (position (λ line. is_bare_row (words line)) (lines text))
