-- Where a count is put among others, and what is first and last.
use Rattle.std.proofs.Common.{◌≡◌, ℕ, ◌+◌, ◌-◌, ◌<◌, ◌≤◌, List, [], ◌∷◌, Bool, true, false, cond, not, length, get_or, Some, None, unwrap_or, refl, sym, ap, ◌∙◌, arith, ltb-false, one-add, max}
use Rattle.std.specs.Prelude.{◌==◌, nat_lt, nat_le, insert, position}
use Rattle.std.specs.List.{position_or_len}
use Rattle.std.proofs.lemmas.Bool.Decides.{nat_tests}
use Rattle.mask_merge.specs.Counts.{put_rising, last_of, greatest_of, log_mask, wanted_by}
use Rattle.mask_merge.specs.Merged.{asked_for}
use Rattle.mask_merge.specs.Kept.{is_not_less}

pub place_within : {A : Type 0} (p : A → Bool) (xs : List A) → position_or_len p xs ≤ length xs
place_within p [] = omega arith
place_within p (x ∷ xs) =
    elim (p x) as (λ t. cond (not t) (1 + position_or_len p xs) 0 ≤ length (x ∷ xs)) [ true ↦ omega arith | false ↦ omega (arith, place_within p xs) ]

place_end : (k n : ℕ) → k ≤ n → unwrap_or (cond (nat_lt k n) (Some k) None) n ≡ k
place_end k n h =
    elim (nat_lt k n) as (λ t. nat_lt k n ≡ t → unwrap_or (cond t (Some k) None) n ≡ k) [ true ↦ λ _. refl | false ↦ λ e. let g : n ≤ k = ltb-false k n e in omega arith ] refl

-- the first place that passes, or the end
pub place_or_end : {A : Type 0} (p : A → Bool) (xs : List A) → unwrap_or (position p xs) (length xs) ≡ position_or_len p xs
place_or_end p xs = place_end (position_or_len p xs) (length xs) (place_within p xs)

less_or_not : (n x : ℕ) → not (nat_le n x) ≡ nat_lt x n
less_or_not n x = grind (arith, nat_tests)

-- a count is put where the first stands that is not less
pub put_at_place : (n : ℕ) (xs : List ℕ) → insert xs (position_or_len (is_not_less n) xs) n ≡ put_rising n xs
put_at_place n [] = refl
put_at_place n (x ∷ xs) =
    let rest = put_at_place n xs in
    let k = position_or_len (is_not_less n) xs in
    ap (λ t. insert (x ∷ xs) (cond t (1 + k) 0) n) (less_or_not n x)
    ∙ elim (nat_lt x n) as (λ t. insert (x ∷ xs) (cond t (1 + k) 0) n ≡ cond t (x ∷ put_rising n xs) (n ∷ x ∷ xs))
    [ true ↦ rw one-add (ap (λ l. x ∷ l) rest) | false ↦ refl ]

last_there : (x : ℕ) (xs : List ℕ) (d : ℕ) → get_or (x ∷ xs) (length xs) d ≡ last_of x xs
last_there x [] d = refl
last_there x (y ∷ ys) d = last_there y ys d

-- the last count is the greatest, but where the first is 0 it may be the native one
greatest_at : (native : ℕ) (x : ℕ) (xs : List ℕ) (last : ℕ) → last ≡ last_of x xs → cond (x == 0) (max native last) last ≡ greatest_of native (x ∷ xs)
greatest_at native x xs last e = ap (λ l. cond (x == 0) (max native l) l) e

end_there : (x : ℕ) (xs : List ℕ) → get_or (x ∷ xs) (length (x ∷ xs) - 1) 0 ≡ last_of x xs
end_there x xs =
    let end : length (x ∷ xs) - 1 ≡ length xs = omega arith in ap (λ k. get_or (x ∷ xs) k 0) end ∙ last_there x xs 0

is_zero : (x : ℕ) → x ≡ 0 → (x == 0) ≡ true
is_zero x e = grind (arith, nat_tests)

is_some : (x : ℕ) → 0 < x → (x == 0) ≡ false
is_some x e = grind (arith, nat_tests)

pub greatest_native : (native : ℕ) (xs : List ℕ) → 0 < length xs → get_or xs 0 0 ≡ 0 → max native (get_or xs (length xs - 1) 0) ≡ greatest_of native xs
greatest_native native [] some e = absurd (omega arith)
greatest_native native (x ∷ xs) some e =
    ap (λ t. cond t (max native (get_or (x ∷ xs) (length (x ∷ xs) - 1) 0)) (get_or (x ∷ xs) (length (x ∷ xs) - 1) 0)) (sym (is_zero x e))
    ∙ greatest_at native x xs _ (end_there x xs)

pub greatest_last : (native : ℕ) (xs : List ℕ) → 0 < length xs → 0 < get_or xs 0 0 → get_or xs (length xs - 1) 0 ≡ greatest_of native xs
greatest_last native [] some e = absurd (omega arith)
greatest_last native (x ∷ xs) some e =
    ap (λ t. cond t (max native (get_or (x ∷ xs) (length (x ∷ xs) - 1) 0)) (get_or (x ∷ xs) (length (x ∷ xs) - 1) 0)) (sym (is_some x e))
    ∙ greatest_at native x xs _ (end_there x xs)

-- where there are counts, something is wanted
pub wanted_there : (native logs : ℕ) (xs : List ℕ) → 0 < length xs → Some (asked_for (log_mask logs) (greatest_of native xs)) ≡ wanted_by native logs xs
wanted_there native logs [] some = absurd (omega arith)
wanted_there native logs (x ∷ xs) some = refl
