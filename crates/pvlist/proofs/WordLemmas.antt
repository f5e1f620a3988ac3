-- The parts of a line by the place of its first separator, and commas after blanks.
use Rattle.std.proofs.Common.{◌≡◌, ℕ, ◌+◌, ◌<◌, Bool, true, false, ◌&&◌, ◌||◌, cond, not, nat_lt, List, [], ◌∷◌, ◌++◌, length, get_or, take, drop, filter, position, Option, Some, None, refl, sym, ap, ◌∙◌, arith}
use Rattle.std.proofs.lemmas.Bool.{false≢true}
use Rattle.std.proofs.lemmas.Bool.Decides.{nat_tests}
use Rattle.std.proofs.lemmas.List.Elements.{filter-append}
use Rattle.std.proofs.lemmas.List.Quantifiers.{position-Some}
use Rattle.std.proofs.lemmas.List.Splits.{length-slice_split, slice_split_first}
use Rattle.std.proofs.lemmas.Str.{IsCharBoundary-after_ascii, IsCharBoundary-before_ascii}
use Rattle.std.specs.List.{flat_map, onto_first, position_or_len, slice_split}
use Rattle.std.specs.Str.{IsCharBoundary, IsUtf8}
use Rattle.pvlist.specs.Words.{is_blank, is_comma, is_word, between_commas}
use Rattle.pvlist.specs.Separators.{is_separator, words_left}

place_is : (p : ℕ → Bool) (text : List ℕ) (place : ℕ) → position p text ≡ Some place → position_or_len p text ≡ place
place_is p text place h = grind (arith, nat_tests)

place_short : (p : ℕ → Bool) (text : List ℕ) (place : ℕ) → position p text ≡ Some place → position_or_len p text < length text
place_short p text place h = grind (arith, nat_tests)

separator_ascii : (commas : Bool) (b : ℕ) → is_separator commas b ≡ true → b < 128
separator_ascii true b h = grind (arith, nat_tests)
separator_ascii false b h = grind (arith, nat_tests)

pub split_at_first : (p : ℕ → Bool) (text : List ℕ) (place : ℕ) → position p text ≡ Some place
    → slice_split p text ≡ take place text ∷ slice_split p (drop (place + 1) text)
split_at_first p text place h = rw (place_is p text place h) at (slice_split_first p text 0 (place_short p text place h))

pub split_nowhere : (p : ℕ → Bool) (text : List ℕ) → position p text ≡ None → slice_split p text ≡ text ∷ []
split_nowhere p [] h = refl
split_nowhere p (b ∷ text) h = by (p b) h (split_nowhere p text)
  where
    by : (parts : Bool) → cond (nat_lt (cond (not parts) (1 + position_or_len p text) 0) (length (b ∷ text))) (Some (cond (not parts) (1 + position_or_len p text) 0)) None ≡ None
        → (position p text ≡ None → slice_split p text ≡ text ∷ [])
        → cond parts ([] ∷ slice_split p text) (onto_first b (slice_split p text)) ≡ (b ∷ text) ∷ []
    by true none step = grind (arith, nat_tests)
    by false none step = ap (onto_first b) (step (grind (arith, nat_tests)))

-- a text may be cut behind a separator
pub IsCharBoundary-behind_separator : (commas : Bool) (text : List ℕ) (place : ℕ) → IsUtf8 text → position (is_separator commas) text ≡ Some place → IsCharBoundary text (place + 1)
IsCharBoundary-behind_separator commas text place utf8 h =
    let found = position-Some (is_separator commas) text place 0 h in
    IsCharBoundary-after_ascii text place utf8 found.0 (separator_ascii commas (get_or text place 0) found.1)

-- and before one
pub IsCharBoundary-at_separator : (commas : Bool) (text : List ℕ) (place : ℕ) → position (is_separator commas) text ≡ Some place → IsCharBoundary text place
IsCharBoundary-at_separator commas text place h =
    let found = position-Some (is_separator commas) text place 0 h in
    IsCharBoundary-before_ascii text place found.0 (separator_ascii commas (get_or text place 0) found.1)

-- ---- commas after blanks

some_part : (p : ℕ → Bool) (text : List ℕ) → 0 < length (slice_split p text)
some_part p text = omega (arith, length-slice_split p text)

onto_first-append : (b : ℕ) (xs ys : List (List ℕ)) → 0 < length xs → onto_first b (xs ++ ys) ≡ onto_first b xs ++ ys
onto_first-append b [] ys h = absurd (omega arith)
onto_first-append b (x ∷ xs) ys h = refl

flat_map-onto_first : (q : ℕ → Bool) (b : ℕ) (xs : List (List ℕ)) → 0 < length xs → q b ≡ false
    → flat_map (slice_split q) (onto_first b xs) ≡ onto_first b (flat_map (slice_split q) xs)
flat_map-onto_first q b [] h is = absurd (omega arith)
flat_map-onto_first q b (x ∷ xs) h is =
    rw is (sym (onto_first-append b (slice_split q x) (flat_map (slice_split q) xs) (some_part q x)))

flat_map-separated : (q : ℕ → Bool) (b : ℕ) (xs : List (List ℕ)) → 0 < length xs → q b ≡ true
    → flat_map (slice_split q) (onto_first b xs) ≡ [] ∷ flat_map (slice_split q) xs
flat_map-separated q b [] h is = absurd (omega arith)
flat_map-separated q b (x ∷ xs) h is = rw is refl

-- the parts of parts are those that both tests part
flat_map-slice_split : (p q r : ℕ → Bool) → ((b : ℕ) → r b ≡ (p b || q b)) → (text : List ℕ) → flat_map (slice_split q) (slice_split p text) ≡ slice_split r text
flat_map-slice_split p q r same [] = refl
flat_map-slice_split p q r same (b ∷ text) =
    rw (same b) (by (p b) (q b) refl (flat_map-slice_split p q r same text))
  where
    by : (in_p in_q : Bool) → q b ≡ in_q → flat_map (slice_split q) (slice_split p text) ≡ slice_split r text
        → flat_map (slice_split q) (cond in_p ([] ∷ slice_split p text) (onto_first b (slice_split p text)))
        ≡ cond (in_p || in_q) ([] ∷ slice_split r text) (onto_first b (slice_split r text))
    by true in_q is step = ap (λ rest. [] ∷ rest) step
    by false true is step = flat_map-separated q b (slice_split p text) (some_part p text) is ∙ ap (λ rest. [] ∷ rest) step
    by false false is step = flat_map-onto_first q b (slice_split p text) (some_part p text) is ∙ ap (onto_first b) step

is_word-some : (b : ℕ) (x : List ℕ) → is_word (b ∷ x) ≡ true
is_word-some b x = grind (arith, nat_tests)

between_commas-filter : (xs : List (List ℕ)) → between_commas (filter is_word xs) ≡ between_commas xs
between_commas-filter [] = refl
between_commas-filter (x ∷ xs) = by x (is_word x) refl (between_commas-filter xs)
  where
    by : (x : List ℕ) (is : Bool) → is_word x ≡ is → between_commas (filter is_word xs) ≡ between_commas xs → between_commas (cond is (x ∷ filter is_word xs) (filter is_word xs)) ≡ between_commas (x ∷ xs)
    by x true h step =
        filter-append is_word (slice_split is_comma x) (flat_map (slice_split is_comma) (filter is_word xs))
        ∙ ap (λ rest. filter is_word (slice_split is_comma x) ++ rest) step
        ∙ sym (filter-append is_word (slice_split is_comma x) (flat_map (slice_split is_comma) xs))
    by [] false h step = step
    by (b ∷ x) false h step = absurd (false≢true (sym h ∙ is_word-some b x))

both : (commas : Bool) (b : ℕ) → is_separator true b ≡ (is_separator commas b || is_comma b)
both commas b = by (is_blank b) (is_comma b) commas
  where
    by : (blank comma commas : Bool) → (blank || comma) ≡ ((blank || (commas && comma)) || comma)
    by true comma commas = refl
    by false true true = refl
    by false true false = refl
    by false false true = refl
    by false false false = refl

-- the words between the commas of what separators part
pub words_left-between_commas : (commas : Bool) (text : Option (List ℕ)) → words_left true text ≡ between_commas (words_left commas text)
words_left-between_commas commas None = refl
words_left-between_commas commas (Some text) =
    ap (filter is_word) (sym (flat_map-slice_split (is_separator commas) is_comma (is_separator true) (both commas) text))
    ∙ sym (between_commas-filter (slice_split (is_separator commas) text))
