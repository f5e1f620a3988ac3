-- Of a list what stands there once at most.
use Rattle.std.proofs.Common.{◌≡◌, ◌≤◌, ◌<◌, ◌+◌, ◌||◌, not, length, take, drop, arith, ℕ, zero, suc, List, [], ◌∷◌, ◌++◌, slice_get, Bool, true, false, cond, Some, filter, refl, ap, ◌∙◌, true≢false}
use Rattle.std.specs.Prelude.{IsTrue}
use Rattle.std.specs.List.{find, list_any}

module _ {X : Type 0} where
  -- what is found stands within the list
  pub found_within : (xs : List X) (i : ℕ) (x : X) → slice_get xs i ≡ Some x → i < length xs
  found_within [] i x at = cc
  found_within (y ∷ xs) zero x at = omega arith
  found_within (y ∷ xs) (suc i) x at = let rest = found_within xs i x at in omega arith

-- what isn't so
pub is_false : (b : Bool) → IsTrue (not b) → b ≡ false
is_false true t = cc
is_false false t = refl

module _ {X : Type 0} (p : X → Bool) where
  -- none passes
  pub none_pass : (xs : List X) → list_any p xs ≡ false → length (filter p xs) ≡ 0
  none_pass [] none = refl
  none_pass (x ∷ xs) none =
      elim (p x) as (λ t. (t || list_any p xs) ≡ false → length (cond t (x ∷ filter p xs) (filter p xs)) ≡ 0)
      [ true ↦ λ h. absurd (true≢false h) | false ↦ λ h. none_pass xs h ] none

  -- one more
  pub passing_more : (xs : List X) (x : X) → length (filter p (xs ++ x ∷ [])) ≡ length (filter p xs) + cond (p x) 1 0
  passing_more [] x = elim (p x) as (λ t. length (cond t (x ∷ []) []) ≡ length (filter p []) + cond t 1 0) [ true ↦ omega arith | false ↦ omega arith ]
  passing_more (y ∷ xs) x =
      let rest = passing_more xs x in
      elim (p y) as (λ t. length (cond t (y ∷ filter p (xs ++ x ∷ [])) (filter p (xs ++ x ∷ []))) ≡ length (cond t (y ∷ filter p xs) (filter p xs)) + cond (p x) 1 0)
      [ true ↦ omega arith | false ↦ rest ]

  -- of some of the list no more pass
  pub passing_fewer : (q : X → Bool) (xs : List X) → length (filter p (filter q xs)) ≤ length (filter p xs)
  passing_fewer q [] = omega arith
  passing_fewer q (x ∷ xs) =
      let rest = passing_fewer q xs in
      elim (q x) as (λ t. length (filter p (cond t (x ∷ filter q xs) (filter q xs))) ≤ length (filter p (x ∷ xs))) [
        | true ↦ elim (p x) as (λ t. length (cond t (x ∷ filter p (filter q xs)) (filter p (filter q xs))) ≤ length (cond t (x ∷ filter p xs) (filter p xs))) [ true ↦ omega arith | false ↦ rest ]
        | false ↦ elim (p x) as (λ t. length (filter p (filter q xs)) ≤ length (cond t (x ∷ filter p xs) (filter p xs))) [ true ↦ omega arith | false ↦ rest ]
      ]

  -- some pass where one does
  pub one_passes : (xs : List X) (i : ℕ) (x : X) → slice_get xs i ≡ Some x → p x ≡ true → 1 ≤ length (filter p xs)
  one_passes [] i x at passes = cc
  one_passes (y ∷ xs) zero x at passes =
      let same : y ≡ x = cc in rw (ap p same ∙ passes) (omega arith)
  one_passes (y ∷ xs) (suc i) x at passes =
      let rest = one_passes xs i x at passes in
      elim (p y) as (λ t. 1 ≤ length (cond t (y ∷ filter p xs) (filter p xs))) [ true ↦ omega arith | false ↦ rest ]

  -- those that don't pass are all
  pub all_fail : (xs : List X) → length (filter p xs) ≤ 0 → xs ≡ filter (λ x. not (p x)) xs
  all_fail [] none = refl
  all_fail (x ∷ xs) none =
      elim (p x) as (λ t. length (cond t (x ∷ filter p xs) (filter p xs)) ≤ 0 → x ∷ xs ≡ cond (not t) (x ∷ filter (λ y. not (p y)) xs) (filter (λ y. not (p y)) xs)) [
        | true ↦ λ h. absurd (omega (arith, h))
        | false ↦ λ h. ap (λ rest. x ∷ rest) (all_fail xs h)
      ] none

  -- without the only one that passes there are those that don't
  pub others_at : (xs : List X) (i : ℕ) (x : X) → slice_get xs i ≡ Some x → p x ≡ true → length (filter p xs) ≤ 1
      → take i xs ++ drop (suc i) xs ≡ filter (λ y. not (p y)) xs
  others_at [] i x at passes once = cc
  others_at (y ∷ xs) zero x at passes once =
      let same : y ≡ x = cc in
      let here : p y ≡ true = ap p same ∙ passes in
      let none : length (filter p xs) ≤ 0 = let all : length (filter p (y ∷ xs)) ≤ 1 = once in let one : length (filter p (y ∷ xs)) ≡ suc (length (filter p xs)) = rw here refl in omega arith in
      rw here (all_fail xs none)
  others_at (y ∷ xs) (suc i) x at passes once =
      let some = one_passes xs i x at passes in
      elim (p y) as (λ t. length (cond t (y ∷ filter p xs) (filter p xs)) ≤ 1 → y ∷ (take i xs ++ drop (suc i) xs) ≡ cond (not t) (y ∷ filter (λ z. not (p z)) xs) (filter (λ z. not (p z)) xs)) [
        | true ↦ λ h. absurd (omega (arith, some, h))
        | false ↦ λ h. ap (λ rest. y ∷ rest) (others_at xs i x at passes h)
      ] once

  -- the only one that passes is what is found
  pub only_found : (xs : List X) (i : ℕ) (x : X) → slice_get xs i ≡ Some x → p x ≡ true → length (filter p xs) ≤ 1 → find p xs ≡ Some x
  only_found [] i x at passes once = cc
  only_found (y ∷ xs) zero x at passes once =
      let same : y ≡ x = cc in rw (ap p same ∙ passes) (ap Some same)
  only_found (y ∷ xs) (suc i) x at passes once =
      let some = one_passes xs i x at passes in
      elim (p y) as (λ t. length (cond t (y ∷ filter p xs) (filter p xs)) ≤ 1 → cond t (Some y) (find p xs) ≡ Some x) [
        | true ↦ λ h. absurd (omega (arith, some, h))
        | false ↦ λ h. only_found xs i x at passes h
      ] once
