-- A text before what follows it, and brackets by the place of their end.
use Rattle.std.proofs.Common.{◌≡◌, ℕ, suc, ◌+◌, ◌-◌, ◌<◌, ◌≤◌, Bool, true, false, cond, eqb, not, nat_lt, List, [], ◌∷◌, ◌++◌, length, get_or, take, drop, position, codes, Option, Some, None, refl, sym, ap, ◌∙◌, append_assoc, add-one, zero-add, arith}
use Rattle.std.proofs.Math.Numerals.{one-add}
use Rattle.std.proofs.Math.Seq.{take-length}
use Rattle.std.proofs.lemmas.Bool.Decides.{nat_tests}
use Rattle.std.proofs.lemmas.List.{append-nil, length-drop}
use Rattle.std.specs.List.{position_or_len}
use Rattle.std.specs.Option.{option_map}
use Rattle.pvlist.specs.declared.syntax.Syntax.{Syntax}
use Rattle.pvlist.specs.declared.syntax.Syntax.TheVariants.{Escaped, Plain}
use Rattle.pvlist.specs.Captures.{count_outside, count_bracket, count_opened, count_within, groups_outside, opens_group}
use Rattle.pvlist.specs.Syntax.{opens_bare, opens_escaped}
use Rattle.pvlist.specs.Translation.{followed, members, is_closing, outside, bracket, opened, within}

followed_append : (front back : List ℕ) (rest : Option (List ℕ)) → followed (front ++ back) rest ≡ followed front (followed back rest)
followed_append front back None = refl
followed_append front back (Some rest) = ap Some (append_assoc front back rest)

-- what is written before a text and behind it
pub ended : (read : Option (List ℕ)) (text : List ℕ) → followed (codes "^(?:") read ≡ Some text
    → option_map (λ inner. codes "^(?:" ++ inner ++ codes ")$") read ≡ Some (text ++ codes ")$")
ended None text h = cc
ended (Some inner) text h = let same : codes "^(?:" ++ inner ≡ text = cc in ap (λ front. Some (front ++ codes ")$")) same

-- what an opened bracket is, by the place of its end in what is left
abbrev closed_at : Syntax → List ℕ → List ℕ → List ℕ → ℕ → Option (List ℕ)
closed_at syntax start inside rest place = followed (start ++ members (inside ++ take place rest) ++ codes "]") (outside syntax (drop (place + 1) rest))

closed_at_next : (syntax : Syntax) (start inside rest : List ℕ) (c place : ℕ) → closed_at syntax start (inside ++ c ∷ []) rest place ≡ closed_at syntax start inside (c ∷ rest) (1 + place)
closed_at_next syntax start inside rest c place = simp (one-add, add-one, append_assoc)

within_closed : (syntax : Syntax) (start inside rest : List ℕ) → position_or_len is_closing rest < length rest → within syntax start inside rest ≡ closed_at syntax start inside rest (position_or_len is_closing rest)
within_closed syntax start inside [] h = absurd (omega arith)
within_closed syntax start inside (c ∷ rest) h = by (is_closing c) h (within_closed syntax start (inside ++ c ∷ []) rest)
  where
    by : (closing : Bool) → cond (not closing) (1 + position_or_len is_closing rest) 0 < length (c ∷ rest)
        → (position_or_len is_closing rest < length rest → within syntax start (inside ++ c ∷ []) rest ≡ closed_at syntax start (inside ++ c ∷ []) rest (position_or_len is_closing rest))
        → cond closing (followed (start ++ members inside ++ codes "]") (outside syntax rest)) (within syntax start (inside ++ c ∷ []) rest)
        ≡ closed_at syntax start inside (c ∷ rest) (cond (not closing) (1 + position_or_len is_closing rest) 0)
    by true short step = simp append-nil
    by false short step = step (omega arith) ∙ closed_at_next syntax start inside rest c (position_or_len is_closing rest)

within_open : (syntax : Syntax) (start inside rest : List ℕ) → position is_closing rest ≡ None → within syntax start inside rest ≡ None
within_open syntax start inside [] h = refl
within_open syntax start inside (c ∷ rest) h = by (is_closing c) h (within_open syntax start (inside ++ c ∷ []) rest)
  where
    by : (closing : Bool) → cond (nat_lt (cond (not closing) (1 + position_or_len is_closing rest) 0) (length (c ∷ rest))) (Some (cond (not closing) (1 + position_or_len is_closing rest) 0)) None ≡ None
        → (position is_closing rest ≡ None → within syntax start (inside ++ c ∷ []) rest ≡ None)
        → cond closing (followed (start ++ members inside ++ codes "]") (outside syntax rest)) (within syntax start (inside ++ c ∷ []) rest) ≡ None
    by true none step = grind (arith, nat_tests)
    by false none step = step (grind (arith, nat_tests))

place_is : (rest : List ℕ) (place : ℕ) → position is_closing rest ≡ Some place → position_or_len is_closing rest ≡ place
place_is rest place h = grind (arith, nat_tests)

place_short : (rest : List ℕ) (place : ℕ) → position is_closing rest ≡ Some place → position_or_len is_closing rest < length rest
place_short rest place h = grind (arith, nat_tests)

drop_all : (n : ℕ) (xs : List ℕ) → take (length xs - n) (drop n xs) ≡ drop n xs
drop_all n xs = rw (← length-drop n xs) (take-length (drop n xs))

-- what is behind the first character, as a slice's pattern gives it
abbrev pub behind : ℕ → List ℕ → List ℕ
behind n xs = take (length xs - n) (drop n xs)

put_closed : (text start inside : List ℕ) (left : Option (List ℕ)) → followed text (followed (start ++ inside ++ codes "]") left) ≡ followed (text ++ start ++ inside ++ codes "]") left
put_closed text start inside left = sym (followed_append text (start ++ inside ++ codes "]") left) ∙ ap (λ t. followed t left) (simp append_assoc)

-- a bracket that is written out
pub opened_put : (syntax : Syntax) (text start rest new : List ℕ) (place : ℕ) → 1 ≤ length rest → position is_closing (behind 1 rest) ≡ Some place
    → new ≡ text ++ start ++ members (take (place + 1) rest) ++ codes "]"
    → followed text (opened syntax start rest) ≡ followed new (outside syntax (behind (place + 1) (behind 1 rest)))
opened_put syntax text start [] new place some closed put = absurd (omega arith)
opened_put syntax text start (c ∷ more) new place some closed put =
    let tail : behind 1 (c ∷ more) ≡ more = drop_all 1 (c ∷ more) in
    let at : position is_closing more ≡ Some place = rw tail at closed in
    let read : within syntax start (c ∷ []) more ≡ closed_at syntax start (c ∷ []) more place =
    rw (place_is more place at) at (within_closed syntax start (c ∷ []) more (place_short more place at)) in
    rw (put, tail, drop_all (place + 1) more, read, add-one place) (put_closed text start (members (c ∷ take place more)) (outside syntax (drop (suc place) more)))

pub opened_open : (syntax : Syntax) (start rest : List ℕ) → 1 ≤ length rest → position is_closing (behind 1 rest) ≡ None → opened syntax start rest ≡ None
opened_open syntax start [] some none = refl
opened_open syntax start (c ∷ more) some none = within_open syntax start (c ∷ []) more (rw (drop_all 1 (c ∷ more)) at none)

count_within_closed : (bare escaped : ℕ → Bool) (rest : List ℕ) → position_or_len is_closing rest < length rest → count_within bare escaped rest ≡ count_outside bare escaped (drop (position_or_len is_closing rest + 1) rest)
count_within_closed bare escaped [] h = absurd (omega arith)
count_within_closed bare escaped (c ∷ rest) h = by (is_closing c) h (count_within_closed bare escaped rest)
  where
    by : (closing : Bool) → cond (not closing) (1 + position_or_len is_closing rest) 0 < length (c ∷ rest)
        → (position_or_len is_closing rest < length rest → count_within bare escaped rest ≡ count_outside bare escaped (drop (position_or_len is_closing rest + 1) rest))
        → cond closing (count_outside bare escaped rest) (count_within bare escaped rest) ≡ count_outside bare escaped (drop (cond (not closing) (1 + position_or_len is_closing rest) 0 + 1) (c ∷ rest))
    by true short step = refl
    by false short step = rw (one-add, add-one) (rw add-one at (step (omega arith)))

-- nothing in a bracket counts
pub count_opened_put : (bare escaped : ℕ → Bool) (rest : List ℕ) (place : ℕ) → 1 ≤ length rest → position is_closing (behind 1 rest) ≡ Some place
    → count_opened bare escaped rest ≡ count_outside bare escaped (behind (place + 1) (behind 1 rest))
count_opened_put bare escaped [] place some closed = absurd (omega arith)
count_opened_put bare escaped (c ∷ more) place some closed =
    let tail : behind 1 (c ∷ more) ≡ more = drop_all 1 (c ∷ more) in
    let at : position is_closing more ≡ Some place = rw tail at closed in
    rw (tail, drop_all (place + 1) more) (rw (place_is more place at) at (count_within_closed bare escaped more (place_short more place at)))

count_within_open : (bare escaped : ℕ → Bool) (rest : List ℕ) → position is_closing rest ≡ None → count_within bare escaped rest ≡ 0
count_within_open bare escaped [] h = refl
count_within_open bare escaped (c ∷ rest) h = by (is_closing c) h (count_within_open bare escaped rest)
  where
    by : (closing : Bool) → cond (nat_lt (cond (not closing) (1 + position_or_len is_closing rest) 0) (length (c ∷ rest))) (Some (cond (not closing) (1 + position_or_len is_closing rest) 0)) None ≡ None
        → (position is_closing rest ≡ None → count_within bare escaped rest ≡ 0)
        → cond closing (count_outside bare escaped rest) (count_within bare escaped rest) ≡ 0
    by true none step = absurd (grind (arith, nat_tests))
    by false none step = step (grind (arith, nat_tests))

-- behind a bracket that isn't closed nothing counts
pub count_opened_open : (bare escaped : ℕ → Bool) (rest : List ℕ) → 1 ≤ length rest → position is_closing (behind 1 rest) ≡ None → count_opened bare escaped rest ≡ 0
count_opened_open bare escaped [] some none = refl
count_opened_open bare escaped (c ∷ more) some none = count_within_open bare escaped more (rw (drop_all 1 (c ∷ more)) at none)

-- a bracket that doesn't begin with `^`
pub bracket_opened : (syntax : Syntax) (rest : List ℕ) (mark : ℕ) → 1 ≤ length rest → mark ≡ get_or rest 0 mark → ¬ (mark ≡ 94)
    → bracket syntax rest ≡ opened syntax (codes "[") rest
bracket_opened syntax [] mark some is other = absurd (omega arith)
bracket_opened syntax (c ∷ rest) mark some is other = let no : eqb c 94 ≡ false = grind (arith, nat_tests) in rw no refl

pub count_bracket_opened : (bare escaped : ℕ → Bool) (rest : List ℕ) (mark : ℕ) → 1 ≤ length rest → mark ≡ get_or rest 0 mark → ¬ (mark ≡ 94)
    → count_bracket bare escaped rest ≡ count_opened bare escaped rest
count_bracket_opened bare escaped [] mark some is other = absurd (omega arith)
count_bracket_opened bare escaped (c ∷ rest) mark some is other = let no : eqb c 94 ≡ false = grind (arith, nat_tests) in rw no refl

-- a bracket begins no group
no_group : (syntax : Syntax) (rest : List ℕ) → opens_group syntax 91 rest ≡ false
no_group Escaped [] = refl
no_group Plain [] = refl
no_group Escaped (c ∷ rest) = refl
no_group Plain (c ∷ rest) = refl

pub groups_bracket : (syntax : Syntax) (c : ℕ) (rest left : List ℕ) → c ≡ 91
    → count_bracket (opens_bare syntax) (opens_escaped syntax) rest ≡ groups_outside syntax left
    → groups_outside syntax (c ∷ rest) ≡ cond (opens_group syntax c rest) 1 0 + groups_outside syntax left
groups_bracket syntax c rest left is h = rw (is, no_group syntax rest) (h ∙ sym (zero-add (groups_outside syntax left)))
