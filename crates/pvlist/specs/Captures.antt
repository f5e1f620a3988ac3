-- The groups of a pattern: what begins one in its syntax and stands outside its brackets (user's guide, PVLIST).
--
-- A pattern is the list of its characters, by code: `[` is 91, `\` 92 and `^` 94.
use Rattle.std.specs.Prelude.{ℕ, ◌+◌, Bool, ◌||◌, ◌&&◌, ◌==◌, if◌then◌else◌, List, [], ◌∷◌, chars}
use Rattle.pvlist.specs.declared.syntax.Syntax.{Syntax}
use Rattle.pvlist.specs.Syntax.{opens_bare, opens_escaped}
use Rattle.pvlist.specs.Translation.{is_closing}

abbrev mutual
  -- how many characters outside brackets count: `bare` says which do where no backslash stands before them as an escape,
  -- and `escaped` which do where one does
  pub count_outside : (ℕ → Bool) → (ℕ → Bool) → List ℕ → ℕ
  count_outside bare escaped [] = 0
  count_outside bare escaped (c ∷ rest) =
      if c == 92 then count_escaped bare escaped rest
      else if c == 91 then count_bracket bare escaped rest
      else if bare c then 1 + count_outside bare escaped rest
      else count_outside bare escaped rest

  -- after a backslash
  pub count_escaped : (ℕ → Bool) → (ℕ → Bool) → List ℕ → ℕ
  count_escaped bare escaped [] = 0
  count_escaped bare escaped (c ∷ rest) =
      if escaped c then 1 + count_outside bare escaped rest else count_outside bare escaped rest

  -- after a `[`, with a `^` or without; nothing that stands inside counts
  pub count_bracket : (ℕ → Bool) → (ℕ → Bool) → List ℕ → ℕ
  count_bracket bare escaped [] = 0
  count_bracket bare escaped (c ∷ rest) =
      if c == 94 then count_opened bare escaped rest else count_within bare escaped rest

  -- after the start of a bracket: the first character doesn't close it
  pub count_opened : (ℕ → Bool) → (ℕ → Bool) → List ℕ → ℕ
  count_opened bare escaped [] = 0
  count_opened bare escaped (c ∷ rest) = count_within bare escaped rest

  -- what stands inside goes up to the next `]`
  pub count_within : (ℕ → Bool) → (ℕ → Bool) → List ℕ → ℕ
  count_within bare escaped [] = 0
  count_within bare escaped (c ∷ rest) =
      if is_closing c then count_outside bare escaped rest else count_within bare escaped rest

-- how many groups what is left of a pattern has
abbrev pub groups_outside : Syntax → List ℕ → ℕ
groups_outside syntax rest = count_outside (opens_bare syntax) (opens_escaped syntax) rest

-- how many groups a pattern has
abbrev pub group_count : Syntax → List ℕ → ℕ
group_count syntax pattern = groups_outside syntax (chars pattern)

-- outside brackets, a group begins here
abbrev pub opens_group : Syntax → ℕ → List ℕ → Bool
opens_group syntax c [] = opens_bare syntax c
opens_group syntax c (next ∷ rest) = opens_bare syntax c || (c == 92 && opens_escaped syntax next)
