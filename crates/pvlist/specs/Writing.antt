-- How one character of a pattern is written in a regular expression. Characters are their codes, a text is its bytes.
use Rattle.std.specs.Prelude.{ℕ, Bool, not, ◌||◌, ◌&&◌, ◌==◌, if◌then◌else◌, List, ◌∷◌, codes, encode_utf8, Option, Some, None}
use Rattle.std.specs.Char.{is_ascii_alphanumeric, is_ascii_graphic}
use Rattle.std.specs.List.{list_any}
use Rattle.pvlist.specs.declared.syntax.Syntax.{Syntax}
use Rattle.pvlist.specs.declared.writing.Writing.{Writing}
use Rattle.pvlist.specs.declared.writing.Writing.TheVariants.{Bare, Escaped}
use Rattle.pvlist.specs.Syntax.{is_grouping, has_bare_groups}

abbrev pub is_among : List ℕ → ℕ → Bool
is_among signs c = list_any (λ sign. sign == c) signs

-- the character as it is, or after a backslash (92)
abbrev pub written : Writing → ℕ → List ℕ
written Bare c = encode_utf8 c
written Escaped c = 92 ∷ encode_utf8 c

-- outside brackets printable characters but the blank may stand; counts and a closing bracket are none there, and groups
-- and alternatives are made so only in the plain syntax
abbrev pub outside_brackets : Syntax → ℕ → Option Writing
outside_brackets syntax c =
    if not (is_ascii_graphic c) then None
    else if is_among (codes "{}]") c || (is_grouping c && not (has_bare_groups syntax)) then Some Escaped
    else Some Bare

-- after a backslash the same but letters and digits; groups and alternatives are made so only in the escaped syntax, and
-- the rest is literal
abbrev pub after_backslash : Syntax → ℕ → Option Writing
after_backslash syntax c =
    if not (is_ascii_graphic c) || is_ascii_alphanumeric c then None
    else if is_among (codes "\\.+*?[]{}^$") c || (is_grouping c && has_bare_groups syntax) then Some Escaped
    else Some Bare

-- in a bracket any character may stand
abbrev pub in_bracket : ℕ → Writing
in_bracket c = if is_among (codes "\\[]^-&~") c then Escaped else Bare
