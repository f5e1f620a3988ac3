-- Places of keys, in their order and each once: what stands there are the rows under these keys, in the order of adding.
use Rattle.std.proofs.Common.{◌≡◌, ℕ, zero, suc, ◌+◌, ◌-◌, ◌<◌, ◌≤◌, List, [], ◌∷◌, ◌++◌, append_assoc, drop, length, get_or, Bool, true, false, cond, eqb, ◌||◌, Option, Some, None, filter, refl, sym, ap, subst, ◌∙◌, true≢false, arith}
use Rattle.std.specs.Prelude.{filter_map, map, slice_index}
use Rattle.std.specs.Cmp.{nat_eq_equiv}
use Rattle.std.specs.List.{cons_option, dedup, list_any}
use Rattle.std.specs.List.Sorted.{IsPermutation, IsSorted, IsStrictlyIncreasing}
use Rattle.std.specs.Option.{option_map}
use Rattle.std.specs.Ordering.{nat_cmp}
use Rattle.std.proofs.lemmas.Bool.{eq-eqb, eqb-false, eqb-true, ne_eqb}
use Rattle.std.proofs.lemmas.List.{drop_more}
use Rattle.std.proofs.lemmas.List.Kept.{Contains-dedup_nat, Contains-from_dedup}
use Rattle.std.proofs.lemmas.List.Sorted.{list_any-IsPermutation}
use Rattle.std.proofs.lemmas.Map.Keys.{IsStrictlyIncreasing-dedup}
use Rattle.std.proofs.lemmas.Map.Views.{Contains-from_any, list_any-from_Contains}
use Rattle.row_index.specs.declared.key.Key.{Key}
use Rattle.row_index.specs.declared.slot.Slot.{Slot}
use Rattle.row_index.specs.declared.slot.Slot.TheVariants.{Empty, Full}
use Rattle.row_index.specs.Rows.{same_key, has_key, has_one_of, row_of, value_at, HasKeysApart}
use Rattle.row_index.specs.Slots.{filled, place_of, places_of, slot_has_key, value_there}
use Rattle.row_index.proofs.Keys.{first_fails, later_fail, same_key_is_same}

-- ---- what is left to be found, one step on

pub none_next : {A B : Type 0} (f : A → Option B) (d : A) (xs : List A) (n : ℕ) (found : List B) → n < length xs → f (get_or xs n d) ≡ None
    → found ++ filter_map f (drop n xs) ≡ filter_map f xs → found ++ filter_map f (drop (n + 1) xs) ≡ filter_map f xs
none_next f d xs n found within none is =
    ap (λ o. found ++ cons_option o (filter_map f (drop (n + 1) xs))) (sym none) ∙ ap (λ left. found ++ filter_map f left) (sym (drop_more xs n d within)) ∙ is

pub one_next : {A B : Type 0} (f : A → Option B) (d : A) (xs : List A) (n : ℕ) (found : List B) (y : B) → n < length xs → f (get_or xs n d) ≡ Some y
    → found ++ filter_map f (drop n xs) ≡ filter_map f xs → (found ++ y ∷ []) ++ filter_map f (drop (n + 1) xs) ≡ filter_map f xs
one_next f d xs n found y within one is =
    append_assoc found (y ∷ []) (filter_map f (drop (n + 1) xs))
    ∙ ap (λ o. found ++ cons_option o (filter_map f (drop (n + 1) xs))) (sym one) ∙ ap (λ left. found ++ filter_map f left) (sym (drop_more xs n d within)) ∙ is

-- ---- rising numbers

abbrev Rise : ℕ → List ℕ → Type 0
Rise low [] = Unit {0}
Rise low (n ∷ ns) = (low ≤ n) × Rise (n + 1) ns

rises : (low : ℕ) (ns : List ℕ) → IsStrictlyIncreasing ns → (0 < length ns → low ≤ slice_index ns 0) → Rise low ns
rises low [] up first = tt
rises low (n ∷ ns) up first = (
  first (omega arith),
  rises (n + 1) ns
      (λ k within.
      let next : suc k + 1 ≡ suc (k + 1) = omega arith in
      subst (λ m. slice_index (n ∷ ns) (suc k) < slice_index (n ∷ ns) m) next (up (suc k) (omega (arith, within))))
      (λ some. let above : n < slice_index ns 0 = up zero (omega (arith, some)) in omega (arith, above)),
)

none_before : (n low : ℕ) (ns : List ℕ) → n < low → Rise low ns → list_any (eqb n) ns ≡ false
none_before n low [] below rise = refl
none_before n low (m ∷ ns) below rise =
    rw (ne_eqb n m (λ same. omega (arith, below, same, rise.0))) (none_before n (m + 1) ns (omega (arith, below, rise.0)) rise.1)

-- without the lowest they rise from the next on
from_next : (low : ℕ) (ns : List ℕ) → Rise low ns → list_any (eqb low) ns ≡ false → Rise (low + 1) ns
from_next low [] rise none = tt
from_next low (n ∷ ns) rise none = by (eqb low n) refl none
  where
    by : (same : Bool) → eqb low n ≡ same → (same || list_any (eqb low) ns) ≡ false → Rise (low + 1) (n ∷ ns)
    by true is none = absurd (true≢false none)
    by false is none = (let differ = eqb-false low n is in omega (arith, differ, rise.0), rise.1)

-- and with it, it is the first
record BeginsAt (low : ℕ) (ns : List ℕ) : Type 0 where
  rest : List ℕ
  is : ns ≡ low ∷ rest
  up : Rise (low + 1) rest

begins : (low : ℕ) (ns : List ℕ) → Rise low ns → list_any (eqb low) ns ≡ true → BeginsAt low ns
begins low [] rise any = absurd (true≢false (sym any))
begins low (n ∷ ns) rise any = by (eqb low n) refl any
  where
    by : (same : Bool) → eqb low n ≡ same → (same || list_any (eqb low) ns) ≡ true → BeginsAt low (n ∷ ns)
    by true is any =
        let same : n ≡ low = sym (eqb-true low n is) in
        record { rest = ns; is = ap (λ m. m ∷ ns) same; up = subst (λ m. Rise (m + 1) ns) same rise.1 }
    by false is any = absurd (true≢false (sym any ∙ none_before low (n + 1) ns (omega (arith, rise.0)) rise.1))

no_place : (low : ℕ) (ns : List ℕ) → Rise low ns → ((n at : ℕ) → at ≡ low + n → list_any (eqb at) ns ≡ false) → ns ≡ []
no_place low [] rise none = refl
no_place low (n ∷ ns) rise none =
    absurd (true≢false (sym (ap (λ t. t || list_any (eqb n) ns) (eq-eqb n n refl)) ∙ none (n - low) n (omega (arith, rise.0))))

without_first : (low at : ℕ) (ns rest : List ℕ) → ns ≡ low ∷ rest → low < at → list_any (eqb at) ns ≡ list_any (eqb at) rest
without_first low at ns rest is above =
    ap (list_any (eqb at)) is ∙ ap (λ t. t || list_any (eqb at) rest) (ne_eqb at low (λ same. omega (arith, above, same)))

-- ---- a number that is there

same_answer : (a b : Bool) → (a ≡ true → b ≡ true) → (b ≡ true → a ≡ true) → a ≡ b
same_answer true b there back = sym (there refl)
same_answer false true there back = back refl
same_answer false false there back = refl

abbrev is_there : ℕ → Option ℕ → Bool
is_there n None = false
is_there n (Some m) = eqb n m

not_first : (o : Option ℕ) → is_there zero (option_map suc o) ≡ false
not_first None = refl
not_first (Some m) = ne_eqb zero (suc m) (λ same. omega (arith, same))

one_later : (n : ℕ) (o : Option ℕ) → is_there (suc n) (option_map suc o) ≡ is_there n o
one_later n None = refl
one_later n (Some m) =
    same_answer (eqb (suc n) (suc m)) (eqb n m)
    (λ is. let same = eqb-true (suc n) (suc m) is in eq-eqb n m (omega (arith, same)))
    (λ is. let same = eqb-true n m is in eq-eqb (suc n) (suc m) (omega (arith, same)))

any_one : (n : ℕ) (o : Option ℕ) (ns : List ℕ) → list_any (eqb n) (cons_option o ns) ≡ (is_there n o || list_any (eqb n) ns)
any_one n None ns = refl
any_one n (Some m) ns = refl

-- each number once is the same numbers
once_any : (n : ℕ) (ns : List ℕ) → list_any (eqb n) (dedup eqb ns) ≡ list_any (eqb n) ns
once_any n ns =
    same_answer (list_any (eqb n) (dedup eqb ns)) (list_any (eqb n) ns)
    (λ any. list_any-from_Contains nat_eq_equiv n ns (Contains-from_dedup eqb ns n (Contains-from_any eqb-true n (dedup eqb ns) any)))
    (λ any. list_any-from_Contains nat_eq_equiv n (dedup eqb ns) (Contains-dedup_nat ns n (Contains-from_any eqb-true n ns any)))

-- ---- where keys that pass stand

module _ {V : Type 0} where
  abbrev slot_passes : (Key → Bool) → Slot V → Bool
  slot_passes p Empty = false
  slot_passes p (Full k value) = p k

  -- at that place stands a row of a key that passes
  abbrev stands : (Key → Bool) → List (Slot V) → ℕ → Bool
  stands p [] n = false
  stands p (slot ∷ slots) zero = slot_passes p slot
  stands p (slot ∷ slots) (suc n) = stands p slots n

  none_stands : (slots : List (Slot V)) (n : ℕ) → stands (λ _. false) slots n ≡ false
  none_stands [] n = refl
  none_stands (Empty ∷ slots) zero = refl
  none_stands (Full k v ∷ slots) zero = refl
  none_stands (slot ∷ slots) (suc n) = none_stands slots n

  either_stands : (p q : Key → Bool) (slots : List (Slot V)) (n : ℕ) → stands (λ k. p k || q k) slots n ≡ (stands p slots n || stands q slots n)
  either_stands p q [] n = refl
  either_stands p q (Empty ∷ slots) zero = refl
  either_stands p q (Full k v ∷ slots) zero = refl
  either_stands p q (slot ∷ slots) (suc n) = either_stands p q slots n

  absent : (key : Key) (slots : List (Slot V)) (n : ℕ) → value_at key (filled slots) ≡ None → stands (λ k. same_key k key) slots n ≡ false
  absent key [] n none = refl
  absent key (Empty ∷ slots) zero none = refl
  absent key (Full k v ∷ slots) zero none = first_fails (has_key key) row_of (k, v) (filled slots) none
  absent key (Empty ∷ slots) (suc n) none = absent key slots n none
  absent key (Full k v ∷ slots) (suc n) none = absent key slots n (later_fail (has_key key) row_of (k, v) (filled slots) none)

  later : (key : Key) (slot : Slot V) (slots : List (Slot V)) (n : ℕ) → slot_has_key key slot ≡ false → slot_passes (λ k. same_key k key) slot ≡ false
      → ((m : ℕ) → is_there m (place_of key slots) ≡ stands (λ k. same_key k key) slots m) → is_there n (place_of key (slot ∷ slots)) ≡ stands (λ k. same_key k key) (slot ∷ slots) n
  later key slot slots zero misses fails rest =
      ap (λ t. is_there zero (cond t (Some 0) (option_map suc (place_of key slots)))) misses ∙ not_first (place_of key slots) ∙ sym fails
  later key slot slots (suc n) misses fails rest =
      ap (λ t. is_there (suc n) (cond t (Some 0) (option_map suc (place_of key slots)))) misses ∙ one_later n (place_of key slots) ∙ rest n

  -- the place of a key is the one at which its row stands
  one_place : (key : Key) (slots : List (Slot V)) → HasKeysApart (filled slots) → (n : ℕ) → is_there n (place_of key slots) ≡ stands (λ k. same_key k key) slots n
  one_place key [] apart n = refl
  one_place key (Empty ∷ slots) apart n = later key Empty slots n refl refl (one_place key slots apart)
  one_place key (Full k v ∷ slots) apart n = by (same_key k key) refl (one_place key slots apart.1) n
    where
      by : (same : Bool) → same_key k key ≡ same → ((m : ℕ) → is_there m (place_of key slots) ≡ stands (λ j. same_key j key) slots m)
          → (m : ℕ) → is_there m (place_of key (Full k v ∷ slots)) ≡ stands (λ j. same_key j key) (Full k v ∷ slots) m
      by true is rest zero = ap (λ t. is_there zero (cond t (Some 0) (option_map suc (place_of key slots)))) is ∙ sym is
      by true is rest (suc m) =
          ap (λ t. is_there (suc m) (cond t (Some 0) (option_map suc (place_of key slots)))) is
          ∙ ne_eqb (suc m) zero (λ same. omega (arith, same))
          ∙ sym (absent key slots m (subst (λ x. value_at x (filled slots) ≡ None) (same_key_is_same k key is) apart.0))
      by false is rest m = later key (Full k v) slots m is is rest

  -- the places of keys are those at which one of their rows stands
  any_place : (keys : List Key) (slots : List (Slot V)) → HasKeysApart (filled slots) → (n : ℕ) → list_any (eqb n) (places_of keys slots) ≡ stands (λ k. list_any (λ key. same_key k key) keys) slots n
  any_place [] slots apart n = sym (none_stands slots n)
  any_place (key ∷ keys) slots apart n =
      any_one n (place_of key slots) (places_of keys slots)
      ∙ (λ i. one_place key slots apart n i || any_place keys slots apart n i)
      ∙ sym (either_stands (λ k. same_key k key) (λ k. list_any (λ key. same_key k key) keys) slots n)

  -- ---- what stands at those places, in their order

  in_turn : (p : Key → Bool) (read : ℕ → Option V) (low : ℕ) (slots : List (Slot V)) (ns : List ℕ) → Rise low ns
      → ((n at : ℕ) → at ≡ low + n → list_any (eqb at) ns ≡ stands p slots n)
      → ((n at : ℕ) → at ≡ low + n → n < length slots → read at ≡ value_there slots n)
      → filter_map read ns ≡ map row_of (filter (λ (entry : Key × V). p entry.0) (filled slots))
  in_turn p read low [] ns rise theirs reads = ap (filter_map read) (no_place low ns rise theirs)
  in_turn p read low (Empty ∷ slots) ns rise theirs reads =
      in_turn p read (low + 1) slots ns (from_next low ns rise (theirs zero low (omega arith))) (λ n at is. theirs (suc n) at (omega (arith, is))) (λ n at is within. reads (suc n) at (omega (arith, is)) (omega (arith, within)))
  in_turn p read low (Full k v ∷ slots) ns rise theirs reads =
      by (p k) refl
      (λ more up had. in_turn p read (low + 1) slots more up had (λ n at is within. reads (suc n) at (omega (arith, is)) (omega (arith, within))))
    where
      kept : List (Key × V)
      kept = filter (λ (entry : Key × V). p entry.0) (filled slots)

      by : (passes : Bool) → p k ≡ passes
          → ((more : List ℕ) → Rise (low + 1) more → ((n at : ℕ) → at ≡ low + 1 + n → list_any (eqb at) more ≡ stands p slots n) → filter_map read more ≡ map row_of kept)
          → filter_map read ns ≡ map row_of (cond passes ((k, v) ∷ kept) kept)
      by false is rest = rest ns (from_next low ns rise (theirs zero low (omega arith) ∙ is)) (λ n at e. theirs (suc n) at (omega (arith, e)))
      by true is rest =
          let first = begins low ns rise (theirs zero low (omega arith) ∙ is) in
          let here : read low ≡ Some v = reads zero low (omega arith) (omega arith) in
          ap (filter_map read) first.is ∙ ap (λ o. cons_option o (filter_map read first.rest)) here
          ∙ ap (λ (more : List V). v ∷ more)
          (rest first.rest first.up (λ n at e. sym (without_first low at ns first.rest first.is (omega (arith, e))) ∙ theirs (suc n) at (omega (arith, e))))

  -- the rows at the places of keys, put into order and each once, are those under the keys in the order of adding
  pub rows_in_order : (slots : List (Slot V)) (keys : List Key) (sorted : List ℕ) → HasKeysApart (filled slots) → IsPermutation (places_of keys slots) sorted → IsSorted nat_cmp sorted
      → filter_map (value_there slots) (dedup eqb sorted) ≡ map row_of (filter (has_one_of keys) (filled slots))
  rows_in_order slots keys sorted apart moved up =
      in_turn (λ k. list_any (λ key. same_key k key) keys) (value_there slots) 0 slots (dedup eqb sorted)
      (rises 0 (dedup eqb sorted) (IsStrictlyIncreasing-dedup sorted up) (λ _. omega arith))
      (λ n at is.
      once_any at sorted ∙ sym (list_any-IsPermutation (eqb at) (places_of keys slots) sorted moved) ∙ any_place keys slots apart at
      ∙ ap (stands (λ k. list_any (λ key. same_key k key) keys) slots) (omega (arith, is)))
      (λ n at is within. ap (value_there slots) (omega (arith, is)))
