-- Lists of numbers that rise: where one stands, one more, one less, and how many are lower than one.
use Rattle.std.proofs.Common.{Bor, ◌≡◌, ℕ, zero, suc, ◌+◌, ◌<◌, ◌≤◌, List, [], ◌∷◌, length, get_or, Bool, cond, Option, Some, None, IfSome, Result, Ok, Err, IfOk, IfErr, refl, ap, ◌∙◌, arith}
use Rattle.std.specs.List.{HoldsAt, count_by, filter, insert, remove}
use Rattle.std.specs.List.Sorted.{IsBinarySearchResult}
use Rattle.std.specs.Option.{MatchOption, option_copied}
use Rattle.std.specs.Ordering.{nat_cmp}
use Rattle.std.proofs.lemmas.Bool.Decides.{nat_tests}
use Rattle.std.proofs.lemmas.List.Edits.{length-remove, get_or-remove_above, get_or-remove_below}
use Rattle.std.proofs.lemmas.List.Sorted.{searched}
use Rattle.std.proofs.lemmas.List.Sums.{sum_by-cons}
use Rattle.channel_table.specs.Numbers.{GoesTo, IsRising, StandsAt, is_lower, is_not_number, with_number}

-- a count of a list with one more at the front
pub counted_first : {A : Type 0} (p : A → Bool) (x : A) (xs : List A) → count_by p (x ∷ xs) ≡ cond (p x) 1 0 + count_by p xs
counted_first p x xs = sum_by-cons (λ y. cond (p y) 1 0) x xs

rising_tail : (x : ℕ) (xs : List ℕ) → IsRising (x ∷ xs) → IsRising xs
rising_tail x xs up i j below within = up (suc i) (suc j) (omega (arith, below)) (omega (arith, within))

below_later : (x : ℕ) (xs : List ℕ) → IsRising (x ∷ xs) → (i : ℕ) → i < length xs → x < get_or xs i 0
below_later x xs up i within = up 0 (suc i) (omega arith) (omega (arith, within))

weakly_rising : (xs : List ℕ) → IsRising xs → (i j : ℕ) → i ≤ j → j < length xs → get_or xs i 0 ≤ get_or xs j 0
weakly_rising xs up i j le within = grind (arith, up i j, λ (same : i ≡ j). ap (λ k. get_or xs k 0) same)

-- what a binary search answers
pub placed : (x : ℕ) (xs : List ℕ) → IsRising xs → (r : Result ℕ ℕ) → IsBinarySearchResult (λ y. nat_cmp y x) xs r → record { ok : IfOk r (StandsAt x xs); err : IfErr r (GoesTo x xs) }
placed x xs up (Ok at) is =
    let found = searched xs x (Ok at) is (weakly_rising xs up) in
    record { ok = record { within = found.0; is = found.1 }; err = tt }
placed x xs up (Err at) is =
    let gap = searched xs x (Err at) is (weakly_rising xs up) in
    record { ok = tt; err = record { within = gap.0; lower = gap.1; higher = gap.2 } }

-- one that stands there is not added
pub there : (x : ℕ) (xs : List ℕ) (place : ℕ) → IsRising xs → StandsAt x xs place → with_number x xs ≡ xs
there x [] place up at = absurd (omega (arith, at.within))
there x (y ∷ ys) zero up at = grind (arith, nat_tests, at.is)
there x (y ∷ ys) (suc place) up at =
    let below = below_later y ys up place (omega (arith, at.within)) in
    let rest = there x ys place (rising_tail y ys up) (record { within = omega (arith, at.within); is = at.is }) in
    grind (arith, nat_tests, below, at.is, rest)

-- another goes to its place
pub put_in : (x : ℕ) (xs : List ℕ) (place : ℕ) → GoesTo x xs place → with_number x xs ≡ insert xs place x
put_in x [] zero to = refl
put_in x [] (suc place) to = absurd (omega (arith, to.within))
put_in x (y ∷ ys) zero to = grind (arith, nat_tests, to.higher 0 (omega arith) (omega arith))
put_in x (y ∷ ys) (suc place) to =
    let rest = put_in x ys place (record {
      within = omega (arith, to.within);
      lower = λ i l. to.lower (suc i) (omega (arith, l));
      higher = λ i l m. to.higher (suc i) (omega (arith, l)) (omega (arith, m));
    }) in
    grind (arith, nat_tests, to.lower 0 (omega arith), rest)

-- the numbers still rise without the one at a place
pub rising_less : (xs : List ℕ) (place : ℕ) → place < length xs → IsRising xs → IsRising (remove xs place)
rising_less xs place there up i j below within =
    let left = remove xs place in
    let long = length-remove xs place there in
    let before : (k : ℕ) → k < place → get_or left k 0 ≡ get_or xs k 0 = λ k l. get_or-remove_below xs place 0 k l there in
    let behind : (k : ℕ) → place ≤ k → get_or left k 0 ≡ get_or xs (k + 1) 0 = λ k l. get_or-remove_above xs place 0 k l there in
    grind (arith, before i, behind i, before j, behind j, up i j, up i (j + 1), up (i + 1) (j + 1))

-- where each is another, none is dropped
all_others : (x : ℕ) (xs : List ℕ) → ((i : ℕ) → i < length xs → get_or xs i 0 ≡ x → ⊥) → xs ≡ filter (is_not_number x) xs
all_others x [] others = refl
all_others x (y ∷ ys) others =
    let rest = all_others x ys (λ i l. others (suc i) (omega (arith, l))) in
    grind (arith, nat_tests, others 0 (omega arith), rest)

-- as where it would go to a place
pub not_there : (x : ℕ) (xs : List ℕ) (place : ℕ) → GoesTo x xs place → xs ≡ filter (is_not_number x) xs
not_there x xs place to = all_others x xs (λ i within at. grind (arith, to.lower i, to.higher i, within, at))

-- the others are those before it and those behind
pub others_beside : (x : ℕ) (xs : List ℕ) (place : ℕ) → IsRising xs → StandsAt x xs place → remove xs place ≡ filter (is_not_number x) xs
others_beside x [] place up at = absurd (omega (arith, at.within))
others_beside x (y ∷ ys) zero up at =
    let rest = all_others x ys (λ i l e. omega (arith, below_later y ys up i l, at.is, e)) in
    grind (arith, nat_tests, at.is, rest)
others_beside x (y ∷ ys) (suc place) up at =
    let below = below_later y ys up place (omega (arith, at.within)) in
    let rest = others_beside x ys place (rising_tail y ys up) (record { within = omega (arith, at.within); is = at.is }) in
    grind (arith, nat_tests, below, at.is, rest)

none_lower : (x : ℕ) (xs : List ℕ) → ((i : ℕ) → i < length xs → x ≤ get_or xs i 0) → count_by (is_lower x) xs ≡ 0
none_lower x [] above = refl
none_lower x (y ∷ ys) above =
    let rest = none_lower x ys (λ i l. above (suc i) (omega (arith, l))) in
    grind (arith, nat_tests, above 0 (omega arith), rest)

lower_too : (x y : ℕ) (ys : List ℕ) → y < x → count_by (is_lower x) (y ∷ ys) ≡ suc (count_by (is_lower x) ys)
lower_too x y ys below = grind (arith, nat_tests, counted_first (is_lower x) y ys)

-- as many are lower as stand before it
pub lower_at : (xs : List ℕ) (place : ℕ) → IsRising xs → place < length xs → count_by (is_lower (get_or xs place 0)) xs ≡ place
lower_at [] place up within = absurd (omega (arith, within))
lower_at (y ∷ ys) zero up within =
    let rest = none_lower y ys (λ i l. omega (arith, below_later y ys up i l)) in
    grind (arith, nat_tests, rest)
lower_at (y ∷ ys) (suc place) up within =
    lower_too (get_or ys place 0) y ys (below_later y ys up place (omega (arith, within))) ∙ ap suc (lower_at ys place (rising_tail y ys up) (omega (arith, within)))

-- than the nth as many are lower
pub nth_lower : (xs : List ℕ) (n : ℕ) (o : Option (Bor ℕ)) → IsRising xs → MatchOption o (length xs ≤ n) (λ x. (n < length xs) × HoldsAt (λ y. x.now ≡ y) xs n)
    → IfSome (option_copied o) (λ x. count_by (is_lower x) xs ≡ n)
nth_lower xs n None up at = tt
nth_lower xs n (Some x) up at = ap (λ k. count_by (is_lower k) xs) (at.1 0) ∙ lower_at xs n up at.0
