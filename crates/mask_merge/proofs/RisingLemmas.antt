-- Rising counts: the greatest is last, and so goes in and out at the end.
use Rattle.std.proofs.Common.{◌≡◌, ℕ, ◌-◌, ◌<◌, ◌≤◌, List, [], ◌∷◌, ◌++◌, Bool, true, false, cond, length, Some, None, refl, sym, ap, ◌∙◌, arith, ltb-false, ltb-true}
use Rattle.std.specs.Prelude.{nat_lt, insert, remove, position, slice_get, Option, IfSome}
use Rattle.std.proofs.lemmas.Bool.Decides.{nat_tests}
use Rattle.std.proofs.lemmas.List.Quantifiers.{position-Some}
use Rattle.rows.specs.Rows.{remove_first}
use Rattle.rows.proofs.RowLemmas.{remove_is_remove_first}
use Rattle.mask_merge.specs.Counts.{put_rising, is_count, last_of}
use Rattle.mask_merge.specs.Kept.{NeverFalls}

-- the first is at most the last
first_below : (x : ℕ) (xs : List ℕ) → NeverFalls (x ∷ xs) → x ≤ last_of x xs
first_below x [] rising = omega arith
first_below x (y ∷ ys) rising = let rest = first_below y ys rising.1 in let here = rising.0 in omega arith

-- a count that is no less than the last stands behind it
put_last : (n x : ℕ) (xs : List ℕ) → NeverFalls (x ∷ xs) → last_of x xs ≤ n → put_rising n (x ∷ xs) ≡ (x ∷ xs) ++ (n ∷ [])
put_last n x [] rising most = grind (arith, nat_tests, most)
put_last n x (y ∷ ys) rising most =
    let rest = put_last n y ys rising.1 most in
    let here = rising.0 in
    let below = first_below y ys rising.1 in
    grind (arith, nat_tests, rest, here, below, most)

-- the last is the first that is like it, among others that are
last_removed : (x : ℕ) (xs : List ℕ) → NeverFalls (x ∷ xs) → remove (x ∷ xs) (length xs) ≡ remove_first (is_count (last_of x xs)) (x ∷ xs)
last_removed x [] rising = grind (arith, nat_tests)
last_removed x (y ∷ ys) rising =
    let rest = last_removed y ys rising.1 in
    let here = rising.0 in
    let below = first_below y ys rising.1 in
    grind (arith, nat_tests, rest, here, below)

some_is : {a b : ℕ} → Some a ≡ Some b → a ≡ b
some_is e = cc

at_last : (x : ℕ) (xs : List ℕ) → slice_get (x ∷ xs) (length xs) ≡ Some (last_of x xs)
at_last x [] = refl
at_last x (y ∷ ys) = at_last y ys

insert_last : (n : ℕ) (xs : List ℕ) → insert xs (length xs) n ≡ xs ++ (n ∷ [])
insert_last n [] = refl
insert_last n (x ∷ xs) = ap (λ l. x ∷ l) (insert_last n xs)

end_is : (x : ℕ) (xs : List ℕ) → length (x ∷ xs) - 1 ≡ length xs
end_is x xs = omega arith

last_found : (x : ℕ) (xs : List ℕ) (last : ℕ) → slice_get (x ∷ xs) (length (x ∷ xs) - 1) ≡ Some last → last_of x xs ≡ last
last_found x xs last found = some_is (sym (at_last x xs) ∙ sym (ap (λ k. slice_get (x ∷ xs) k) (end_is x xs)) ∙ found)

-- where none is greater than a count, it stands behind all
pub put_at_end : (n last : ℕ) (xs : List ℕ) → NeverFalls xs → slice_get xs (length xs - 1) ≡ Some last → last ≤ n → insert xs (length xs) n ≡ put_rising n xs
put_at_end n last [] rising found most = absurd cc
put_at_end n last (x ∷ xs) rising found most =
    let same : last_of x xs ≡ last = last_found x xs last found in
    let up : last_of x xs ≤ n = omega (arith, same, most) in
    insert_last n (x ∷ xs) ∙ sym (put_last n x xs rising up)

-- and the greatest is taken from the end
pub removed_at_end : (n last : ℕ) (xs : List ℕ) → NeverFalls xs → slice_get xs (length xs - 1) ≡ Some last → last ≡ n → remove xs (length xs - 1) ≡ remove_first (is_count n) xs
removed_at_end n last [] rising found is = absurd cc
removed_at_end n last (x ∷ xs) rising found is =
    let same : last_of x xs ≡ n = last_found x xs last found ∙ is in
    ap (λ k. remove (x ∷ xs) k) (end_is x xs) ∙ last_removed x xs rising ∙ ap (λ k. remove_first (is_count k) (x ∷ xs)) same

pub last_within : (last : ℕ) (xs : List ℕ) → slice_get xs (length xs - 1) ≡ Some last → length xs - 1 < length xs
last_within last [] found = absurd cc
last_within last (x ∷ xs) found = omega (arith, end_is x xs)

-- what stands at the first place that passes is the first that passes
pub taken_by : (p : ℕ → Bool) (xs : List ℕ) (found : Option ℕ) → found ≡ position p xs → IfSome found (λ k. (remove xs k ≡ remove_first p xs) × (k < length xs))
taken_by p xs None e = tt
taken_by p xs (Some k) e = (remove_is_remove_first p xs k (sym e), (position-Some p xs k 0 (sym e)).0)

-- counts rise with one more, and with one less

put_under : (x n y : ℕ) (ys : List ℕ) → x ≤ y → x < n → NeverFalls (put_rising n (y ∷ ys)) → NeverFalls (x ∷ put_rising n (y ∷ ys))
put_under x n y ys low less rest =
    elim (nat_lt y n) as (λ t. NeverFalls (cond t (y ∷ put_rising n ys) (n ∷ y ∷ ys)) → NeverFalls (x ∷ cond t (y ∷ put_rising n ys) (n ∷ y ∷ ys)))
    [ true ↦ λ r. (low, r) | false ↦ λ r. (omega (arith, less), r) ] rest

pub put_keeps : (n : ℕ) (xs : List ℕ) → NeverFalls xs → NeverFalls (put_rising n xs)
put_keeps n [] rising = tt
put_keeps n (x ∷ []) rising =
    elim (nat_lt x n) as (λ t. nat_lt x n ≡ t → NeverFalls (cond t (x ∷ n ∷ []) (n ∷ x ∷ [])))
    [ true ↦ λ e. let less : x < n = ltb-true x n e in (omega (arith, less), tt) | false ↦ λ e. (ltb-false x n e, tt) ] refl
put_keeps n (x ∷ y ∷ ys) rising =
    let rest = put_keeps n (y ∷ ys) rising.1 in
    elim (nat_lt x n) as (λ t. nat_lt x n ≡ t → NeverFalls (cond t (x ∷ put_rising n (y ∷ ys)) (n ∷ x ∷ y ∷ ys)))
    [ true ↦ λ e. put_under x n y ys rising.0 (ltb-true x n e) rest | false ↦ λ e. (ltb-false x n e, rising) ] refl

passed_over : (x y : ℕ) (ys : List ℕ) → x ≤ y → NeverFalls (y ∷ ys) → NeverFalls (x ∷ ys)
passed_over x y [] low rising = tt
passed_over x y (z ∷ zs) low rising = let next = rising.0 in (omega (arith, low, next), rising.1)

pub removed_keeps : (p : ℕ → Bool) (xs : List ℕ) → NeverFalls xs → NeverFalls (remove_first p xs)
removed_keeps p [] rising = tt
removed_keeps p (x ∷ []) rising = elim (p x) as (λ t. NeverFalls (cond t [] (x ∷ []))) [ true ↦ tt | false ↦ tt ]
removed_keeps p (x ∷ y ∷ ys) rising =
    let rest = removed_keeps p (y ∷ ys) rising.1 in
    elim (p x) as (λ t. NeverFalls (cond t (y ∷ ys) (x ∷ remove_first p (y ∷ ys)))) [
      | true ↦ rising.1
      | false ↦ elim (p y) as (λ t. NeverFalls (cond t ys (y ∷ remove_first p ys)) → NeverFalls (x ∷ cond t ys (y ∷ remove_first p ys)))
          [ true ↦ λ r. passed_over x y ys rising.0 rising.1 | false ↦ λ r. (rising.0, r) ] rest
    ]
