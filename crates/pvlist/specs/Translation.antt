-- What a pattern of a rule file is as a regular expression (user's guide, PVLIST).
--
-- A pattern is the list of its characters, by code, and a text is its bytes. The codes are `-` 45, `[` 91, `\` 92,
-- `]` 93 and `^` 94.
use Rattle.std.specs.Prelude.{ℕ, Bool, ◌==◌, if◌then◌else◌, List, [], ◌∷◌, ◌++◌, codes, chars, Option, Some, None}
use Rattle.std.specs.Option.{option_map}
use Rattle.pvlist.specs.declared.syntax.Syntax.{Syntax}
use Rattle.pvlist.specs.declared.writing.Writing.{Writing}
use Rattle.pvlist.specs.Writing.{written, outside_brackets, after_backslash, in_bracket}

-- the text, and what follows it, where there is that
abbrev pub followed : List ℕ → Option (List ℕ) → Option (List ℕ)
followed text None = None
followed text (Some rest) = Some (text ++ rest)

-- the character, where it may stand, and what follows it
abbrev pub one : Option Writing → ℕ → Option (List ℕ) → Option (List ℕ)
one None c rest = None
one (Some writing) c rest = followed (written writing c) rest

-- in a bracket, a character that stands for itself
abbrev pub literal : ℕ → List ℕ
literal c = written (in_bracket c) c

-- what stands inside a bracket: a character, `-` and a character are a range, and all others stand for themselves
abbrev pub members : List ℕ → List ℕ
members [] = []
members (c ∷ []) = literal c
members (c ∷ d ∷ []) = literal c ++ literal d
members (c ∷ d ∷ end ∷ rest) =
    if d == 45 then literal c ++ 45 ∷ (literal end ++ members rest)
    else literal c ++ members (d ∷ end ∷ rest)

-- what closes a bracket
abbrev pub is_closing : ℕ → Bool
is_closing c = c == 93

abbrev mutual
  -- the text of a pattern, if it is one
  pub outside : Syntax → List ℕ → Option (List ℕ)
  outside syntax [] = Some []
  outside syntax (c ∷ rest) =
      if c == 92 then escaped syntax rest
      else if c == 91 then bracket syntax rest
      else one (outside_brackets syntax c) c (outside syntax rest)

  -- after a backslash
  pub escaped : Syntax → List ℕ → Option (List ℕ)
  escaped syntax [] = None
  escaped syntax (c ∷ rest) = one (after_backslash syntax c) c (outside syntax rest)

  -- after a `[`, with a `^` or without
  pub bracket : Syntax → List ℕ → Option (List ℕ)
  bracket syntax [] = None
  bracket syntax (c ∷ rest) =
      if c == 94 then opened syntax (codes "[^") rest else within syntax (codes "[") (c ∷ []) rest

  -- after the start of a bracket: the first character is one of its own, be it a `]`
  pub opened : Syntax → List ℕ → List ℕ → Option (List ℕ)
  opened syntax start [] = None
  opened syntax start (c ∷ rest) = within syntax start (c ∷ []) rest

  -- what stands inside goes up to the next `]`
  pub within : Syntax → List ℕ → List ℕ → List ℕ → Option (List ℕ)
  within syntax start inside [] = None
  within syntax start inside (c ∷ rest) =
      if is_closing c then followed (start ++ members inside ++ codes "]") (outside syntax rest)
      else within syntax start (inside ++ c ∷ []) rest

-- what a pattern is translated to, which matches whole names
abbrev pub translation : Syntax → List ℕ → Option (List ℕ)
translation syntax pattern = option_map (λ text. codes "^(?:" ++ text ++ codes ")$") (outside syntax (chars pattern))
