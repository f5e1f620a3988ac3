-- The real name of an alias, with its references.
use Rattle.std.specs.Prelude.{ℕ, ◌-◌, Bool, true, false, ◌&&◌, ◌==◌, nat_le, if◌then◌else◌, List, [], ◌∷◌, Option, Some, None}
use Rattle.std.specs.Char.{is_ascii_graphic}

-- the digit, 1 (49) to 9 (57), is the number of one of so many groups
abbrev pub is_reference : ℕ → ℕ → Bool
is_reference groups digit = nat_le 49 digit && nat_le digit 57 && nat_le (digit - 48) groups

abbrev mutual
  -- each byte is printable and no blank (33 to 126), and each backslash (92) refers to one of so many groups
  pub is_real_text : ℕ → List ℕ → Bool
  is_real_text groups [] = true
  is_real_text groups (b ∷ rest) =
      if b == 92 then is_referring groups rest else is_ascii_graphic b && is_real_text groups rest

  -- after a backslash
  pub is_referring : ℕ → List ℕ → Bool
  is_referring groups [] = false
  is_referring groups (digit ∷ rest) = is_reference groups digit && is_real_text groups rest

-- the word, where it is there and is the real name of an alias
abbrev pub real_text_of : ℕ → Option (List ℕ) → Option (List ℕ)
real_text_of groups None = None
real_text_of groups (Some word) = if is_real_text groups word then Some word else None
