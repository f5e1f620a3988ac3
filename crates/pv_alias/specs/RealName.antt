-- The real name that an alias gives a name (user's guide, PVLIST).
--
-- Names and real texts are the lists of their bytes. The codes are `0` 48, `1` 49, `9` 57 and `\` 92.
use Rattle.std.specs.Prelude.{ℕ, ◌-◌, Bool, ◌&&◌, ◌==◌, nat_le, if◌then◌else◌, List, [], ◌∷◌, ◌++◌, slice_range, Option, Some, None, option_and_then}
use Rattle.pv_name.specs.Name.{is_name}
use Rattle.regex.specs.Patterns.{Match, find_str}
use Rattle.regex.specs.Strings.{regex_pattern, captures_haystack, captures_span}
use Rattle.regex.specs.Writes.{group_of}
use Rattle.regex.specs.declared.string.captures.Captures.{Captures}
use Rattle.regex.specs.declared.string.regex.Regex.{Regex}

-- the part of the name that a group took; nothing where the group took none or isn't there
abbrev pub part : List ℕ → Option (ℕ × ℕ) → List ℕ
part name None = []
part name (Some ends) = slice_range name ends.0 ends.1

-- what the groups took where the name matched so
abbrev pub taken : List ℕ → Match → ℕ → List ℕ
taken name m group = part name (group_of m group)

-- the same where captures tell it
abbrev pub captured : Captures → ℕ → List ℕ
captured c group = part (captures_haystack c) (captures_span c group)

-- a backslash and a digit from 1 to 9 refer to a group
abbrev pub is_reference : ℕ → ℕ → Bool
is_reference c d = c == 92 && nat_le 49 d && nat_le d 57

-- the text with what the groups took in the place of the references to them
abbrev pub replaced : (ℕ → List ℕ) → List ℕ → List ℕ
replaced groups [] = []
replaced groups (c ∷ []) = c ∷ []
replaced groups (c ∷ d ∷ rest) =
    if is_reference c d then groups (d - 48) ++ replaced groups rest else c ∷ replaced groups (d ∷ rest)

-- the bytes, if they are a name
abbrev pub as_name : List ℕ → Option (List ℕ)
as_name bytes = if is_name bytes then Some bytes else None

-- what the real text makes of a name that the pattern matches; none where that is no name
abbrev pub real_name : List ℕ → Regex → List ℕ → Option (List ℕ)
real_name name regex text =
    option_and_then (λ m. as_name (replaced (taken name m) text)) (find_str (regex_pattern regex) name 0)
