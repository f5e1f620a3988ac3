-- Rows in slots: what stands where, and what a change of a slot does.
use Rattle.std.proofs.Common.{◌≡◌, ℕ, zero, suc, ◌+◌, ◌<◌, List, [], ◌∷◌, ◌++◌, length, get_or, set, take, Bool, true, false, cond, Option, Some, None, filter, refl, sym, ap, subst, ◌∙◌, true≢false, arith}
use Rattle.std.specs.Bool.{OnTrue}
use Rattle.std.specs.List.{find}
use Rattle.std.specs.Option.{option_map, option_or}
use Rattle.row_index.specs.declared.key.Key.{Key}
use Rattle.row_index.specs.Rows.{same_key, row_of, has_key, lacks_key, value_at, put_at, HasKeysApart}
use Rattle.row_index.specs.declared.slot.Slot.{Slot}
use Rattle.row_index.specs.declared.slot.Slot.TheVariants.{Empty, Full}
use Rattle.row_index.specs.Slots.{slot_has_key, is_full, value_in, with_value, filled, place_of}
use Rattle.row_index.proofs.Keys.{same_key_is_same, same_key_flips, unmapped, first_fails, later_fail, none_of}

first_place : (b : Bool) (o : Option ℕ) → cond b (Some 0) (option_map suc o) ≡ Some 0 → b ≡ true
first_place true o e = refl
first_place false None e = cc
first_place false (Some i) e = let bad : suc i ≡ 0 = cc in absurd (omega arith)

later_place : (b : Bool) (o : Option ℕ) (i : ℕ) → cond b (Some 0) (option_map suc o) ≡ Some (suc i) → (b ≡ false) × (o ≡ Some i)
later_place true o i e = let bad : 0 ≡ suc i = cc in absurd (omega arith)
later_place false None i e = cc
later_place false (Some j) i e = let same : suc j ≡ suc i = cc in let alike : j ≡ i = omega arith in (refl, ap Some alike)

no_place : (b : Bool) (o : Option ℕ) → cond b (Some 0) (option_map suc o) ≡ None → (b ≡ false) × (o ≡ None)
no_place true o e = cc
no_place false None e = (refl, refl)
no_place false (Some i) e = cc

or_none : (o : Option ℕ) → option_or o None ≡ o
or_none None = refl
or_none (Some i) = refl

shifted : (o : Option ℕ) (b : Bool) (n : ℕ) → option_map suc (option_or o (cond b (Some n) None)) ≡ option_or (option_map suc o) (cond b (Some (suc n)) None)
shifted None true n = refl
shifted None false n = refl
shifted (Some i) b n = refl

-- entries that lack a key are all that there are, if none has it
pub all_lack : {V : Type 0} (key : Key) (entries : List (Key × V)) → value_at key entries ≡ None → filter (lacks_key key) entries ≡ entries
all_lack key [] none = refl
all_lack key (entry ∷ later) none =
    rw (first_fails (has_key key) row_of entry later none) (ap (λ rest. entry ∷ rest) (all_lack key later (later_fail (has_key key) row_of entry later none)))

module _ {V : Type 0} (key : Key) where
  -- a place is one of a slot
  pub place_within : (slots : List (Slot V)) (i : ℕ) → place_of key slots ≡ Some i → i < length slots
  place_within [] i at = cc
  place_within (slot ∷ slots) zero at = omega arith
  place_within (slot ∷ slots) (suc i) at =
      let rest = place_within slots i (later_place (slot_has_key key slot) (place_of key slots) i at).1 in omega arith

  past_empty : (slot : Slot V) (slots : List (Slot V)) → slot_has_key key slot ≡ false → find (has_key key) (filled (slot ∷ slots)) ≡ find (has_key key) (filled slots)
  past_empty Empty slots misses = refl
  past_empty (Full k v) slots misses = rw misses refl

  -- what stands at the place of a key is the row of that key
  pub found_there : (slots : List (Slot V)) (i : ℕ) (d : Slot V) → place_of key slots ≡ Some i → value_at key (filled slots) ≡ value_in (get_or slots i d)
  found_there [] i d at = cc
  found_there (Empty ∷ slots) zero d at = absurd (true≢false (sym (first_place false (place_of key slots) at)))
  found_there (Full k v ∷ slots) zero d at = rw (first_place (same_key k key) (place_of key slots) at) refl
  found_there (slot ∷ slots) (suc i) d at =
      let later = later_place (slot_has_key key slot) (place_of key slots) i at in
      ap (option_map row_of) (past_empty slot slots later.0) ∙ found_there slots i d later.1

  -- with no place there is no row
  pub found_nowhere : (slots : List (Slot V)) → place_of key slots ≡ None → find (has_key key) (filled slots) ≡ None
  found_nowhere [] at = refl
  found_nowhere (slot ∷ slots) at =
      let later = no_place (slot_has_key key slot) (place_of key slots) at in
      past_empty slot slots later.0 ∙ found_nowhere slots later.1

  -- with no row there is no place
  pub nowhere_found : (slots : List (Slot V)) → find (has_key key) (filled slots) ≡ None → place_of key slots ≡ None
  nowhere_found [] none = refl
  nowhere_found (Empty ∷ slots) none = ap (option_map suc) (nowhere_found slots none)
  nowhere_found (Full k v ∷ slots) none =
      elim (same_key k key) as (λ t. let none : Option (Key × V) = None in cond t (Some (k, v)) (find (has_key key) (filled slots)) ≡ none → cond t (Some 0) (option_map suc (place_of key slots)) ≡ None)
      [ true ↦ λ h. cc | false ↦ λ h. ap (option_map suc) (nowhere_found slots h) ] none

  -- another value in the slot of a key
  pub filled_put : (slots : List (Slot V)) (i : ℕ) (d : Slot V) (value : V) → place_of key slots ≡ Some i → filled (set slots i (with_value (get_or slots i d) value)) ≡ put_at key (filled slots) value
  filled_put [] i d value at = cc
  filled_put (Empty ∷ slots) zero d value at = absurd (true≢false (sym (first_place false (place_of key slots) at)))
  filled_put (Full k v ∷ slots) zero d value at = rw (first_place (same_key k key) (place_of key slots) at) refl
  filled_put (Empty ∷ slots) (suc i) d value at = filled_put slots i d value (later_place false (place_of key slots) i at).1
  filled_put (Full k v ∷ slots) (suc i) d value at =
      let later = later_place (same_key k key) (place_of key slots) i at in
      rw later.0 (ap (λ rest. (k, v) ∷ rest) (filled_put slots i d value later.1))

  -- the slot of a key, emptied
  pub filled_out : (slots : List (Slot V)) (i : ℕ) → place_of key slots ≡ Some i → HasKeysApart (filled slots) → filled (set slots i Empty) ≡ filter (lacks_key key) (filled slots)
  filled_out [] i at apart = cc
  filled_out (Empty ∷ slots) zero at apart = absurd (true≢false (sym (first_place false (place_of key slots) at)))
  filled_out (Full k v ∷ slots) zero at apart =
      let here = first_place (same_key k key) (place_of key slots) at in
      let none : value_at key (filled slots) ≡ None = subst (λ x. value_at x (filled slots) ≡ None) (same_key_is_same k key here) apart.0 in
      rw here (sym (all_lack key (filled slots) none))
  filled_out (Empty ∷ slots) (suc i) at apart =
      filled_out slots i (later_place false (place_of key slots) i at).1 apart
  filled_out (Full k v ∷ slots) (suc i) at apart =
      let later = later_place (same_key k key) (place_of key slots) i at in
      rw later.0 (ap (λ rest. (k, v) ∷ rest) (filled_out slots i later.1 apart.1))

  -- then there is one row less
  pub fewer_out : (slots : List (Slot V)) (i : ℕ) → place_of key slots ≡ Some i → length (filled (set slots i Empty)) + 1 ≡ length (filled slots)
  fewer_out [] i at = cc
  fewer_out (Empty ∷ slots) zero at = absurd (true≢false (sym (first_place false (place_of key slots) at)))
  fewer_out (Full k v ∷ slots) zero at = omega arith
  fewer_out (Empty ∷ slots) (suc i) at = fewer_out slots i (later_place false (place_of key slots) i at).1
  fewer_out (Full k v ∷ slots) (suc i) at =
      let rest = fewer_out slots i (later_place (same_key k key) (place_of key slots) i at).1 in omega arith

  -- and the key has no place
  pub gone_out : (slots : List (Slot V)) (i : ℕ) → place_of key slots ≡ Some i → HasKeysApart (filled slots) → place_of key (set slots i Empty) ≡ None
  gone_out [] i at apart = cc
  gone_out (Empty ∷ slots) zero at apart = absurd (true≢false (sym (first_place false (place_of key slots) at)))
  gone_out (Full k v ∷ slots) zero at apart =
      let here = first_place (same_key k key) (place_of key slots) at in
      let none : value_at key (filled slots) ≡ None = subst (λ x. value_at x (filled slots) ≡ None) (same_key_is_same k key here) apart.0 in
      ap (option_map suc) (nowhere_found slots (unmapped row_of _ none))
  gone_out (Empty ∷ slots) (suc i) at apart =
      ap (option_map suc) (gone_out slots i (later_place false (place_of key slots) i at).1 apart)
  gone_out (Full k v ∷ slots) (suc i) at apart =
      let later = later_place (same_key k key) (place_of key slots) i at in
      rw later.0 (ap (option_map suc) (gone_out slots i later.1 apart.1))

  -- a slot that the key doesn't have, changed into another such
  pub place_past : (slots : List (Slot V)) (i : ℕ) (d slot : Slot V) → slot_has_key key (get_or slots i d) ≡ slot_has_key key slot → place_of key (set slots i slot) ≡ place_of key slots
  place_past [] i d slot same = refl
  place_past (first ∷ slots) zero d slot same = rw same refl
  place_past (first ∷ slots) (suc i) d slot same =
      ap (λ rest. cond (slot_has_key key first) (Some 0) (option_map suc rest)) (place_past slots i d slot same)

  -- the slot at the place of a key has it
  pub has_there : (slots : List (Slot V)) (i : ℕ) (d : Slot V) → place_of key slots ≡ Some i → slot_has_key key (get_or slots i d) ≡ true
  has_there [] i d at = cc
  has_there (slot ∷ slots) zero d at = first_place (slot_has_key key slot) (place_of key slots) at
  has_there (slot ∷ slots) (suc i) d at = has_there slots i d (later_place (slot_has_key key slot) (place_of key slots) i at).1

  -- one slot more
  place_more : (slots : List (Slot V)) (slot : Slot V) → place_of key (slots ++ slot ∷ []) ≡ option_or (place_of key slots) (cond (slot_has_key key slot) (Some (length slots)) None)
  place_more [] slot = refl
  place_more (first ∷ slots) slot =
      elim (slot_has_key key first) as (λ t. cond t (Some 0) (option_map suc (place_of key (slots ++ slot ∷ []))) ≡ option_or (cond t (Some 0) (option_map suc (place_of key slots))) (cond (slot_has_key key slot) (Some (length (first ∷ slots))) None)) [
        | true ↦ refl
        | false ↦ ap (option_map suc) (place_more slots slot) ∙ shifted (place_of key slots) (slot_has_key key slot) (length slots)
      ]

  pub place_more_empty : (slots : List (Slot V)) → place_of key (slots ++ Empty ∷ []) ≡ place_of key slots
  place_more_empty slots = place_more slots Empty ∙ or_none (place_of key slots)

  -- no entry in the slots has a key that isn't found there
  fails_at : (slots : List (Slot V)) (i : ℕ) (d : Slot V) (q : Key) (w : V) → value_at key (filled slots) ≡ None → i < length slots → get_or slots i d ≡ Full q w → same_key q key ≡ false
  fails_at [] i d q w none within here = absurd (omega arith)
  fails_at (Empty ∷ slots) zero d q w none within here = cc
  fails_at (Full k v ∷ slots) zero d q w none within here =
      let same : k ≡ q = cc in ap (λ x. same_key x key) (sym same) ∙ first_fails (has_key key) row_of (k, v) (filled slots) none
  fails_at (Empty ∷ slots) (suc i) d q w none within here = fails_at slots i d q w none (omega arith) here
  fails_at (Full k v ∷ slots) (suc i) d q w none within here =
      fails_at slots i d q w (later_fail (has_key key) row_of (k, v) (filled slots) none) (omega arith) here

  other_key : (q : Key) (slot : Slot V) → slot_has_key key slot ≡ true → same_key key q ≡ false → slot_has_key q slot ≡ false
  other_key q Empty here other = absurd (true≢false (sym here))
  other_key q (Full k v) here other = ap (λ x. same_key x q) (same_key_is_same k key here) ∙ other

module _ {V : Type 0} where
  -- the key of a slot that is emptied has no place then, and others have theirs
  pub places_out : (key q : Key) (slots : List (Slot V)) (i : ℕ) → place_of key slots ≡ Some i → HasKeysApart (filled slots) → place_of q (set slots i Empty) ≡ cond (same_key key q) None (place_of q slots)
  places_out key q slots i at apart =
      elim (same_key key q) as (λ t. same_key key q ≡ t → place_of q (set slots i Empty) ≡ cond t None (place_of q slots)) [
        | true ↦ λ e. subst (λ k. place_of k (set slots i Empty) ≡ None) (same_key_is_same key q e) (gone_out key slots i at apart)
        | false ↦ λ e. place_past q slots i Empty Empty (other_key key q (get_or slots i Empty) (has_there key slots i Empty at) e)
      ] refl

  -- a row behind the others: its key has the place behind them, and others have theirs
  pub places_more : (key q : Key) (value : V) (slots : List (Slot V)) → value_at key (filled slots) ≡ None → place_of q (slots ++ Full key value ∷ []) ≡ cond (same_key key q) (Some (length slots)) (place_of q slots)
  places_more key q value slots new =
      place_more q slots (Full key value)
      ∙ elim (same_key key q) as (λ t. same_key key q ≡ t → option_or (place_of q slots) (cond t (Some (length slots)) None) ≡ cond t (Some (length slots)) (place_of q slots)) [
        | true ↦ λ e. let none : place_of q slots ≡ None = subst (λ k. place_of k slots ≡ None) (same_key_is_same key q e) (nowhere_found key slots (unmapped row_of _ new)) in rw none refl
        | false ↦ λ e. or_none (place_of q slots)
      ] refl

  pub filled_more : (slots : List (Slot V)) (key : Key) (value : V) → filled (slots ++ Full key value ∷ []) ≡ filled slots ++ (key, value) ∷ []
  filled_more [] key value = refl
  filled_more (Empty ∷ slots) key value = filled_more slots key value
  filled_more (Full k v ∷ slots) key value = ap (λ rest. (k, v) ∷ rest) (filled_more slots key value)

  pub filled_more_empty : (slots : List (Slot V)) → filled (slots ++ Empty ∷ []) ≡ filled slots
  filled_more_empty [] = refl
  filled_more_empty (Empty ∷ slots) = filled_more_empty slots
  filled_more_empty (Full k v ∷ slots) = ap (λ rest. (k, v) ∷ rest) (filled_more_empty slots)

  -- without the empty slots there are the same rows
  pub filled_tight : (slots : List (Slot V)) → filled (filter is_full slots) ≡ filled slots
  filled_tight [] = refl
  filled_tight (Empty ∷ slots) = filled_tight slots
  filled_tight (Full k v ∷ slots) = ap (λ rest. (k, v) ∷ rest) (filled_tight slots)

  -- and as many slots as rows
  pub tight : (slots : List (Slot V)) → length (filter is_full slots) ≡ length (filled slots)
  tight [] = refl
  tight (Empty ∷ slots) = tight slots
  tight (Full k v ∷ slots) = let rest = tight slots in omega arith

  -- a row's key isn't found among the rows before it
  pub new_there : (slots : List (Slot V)) (i : ℕ) (d : Slot V) (key : Key) (value : V) → i < length slots → get_or slots i d ≡ Full key value → HasKeysApart (filled slots) → value_at key (filled (take i slots)) ≡ None
  new_there [] i d key value within here apart = absurd (omega arith)
  new_there (Empty ∷ slots) zero d key value within here apart = refl
  new_there (Full k v ∷ slots) zero d key value within here apart = refl
  new_there (Empty ∷ slots) (suc i) d key value within here apart = new_there slots i d key value (omega arith) here apart
  new_there (Full k v ∷ slots) (suc i) d key value within here apart =
      none_of (has_key key) row_of (k, v) (filled (take i slots))
      (same_key_flips k key ∙ fails_at k slots i d key value apart.0 (omega arith) here)
      (new_there slots i d key value (omega arith) here apart.1)

  -- a slot with a key is where the row of that key stands
  has_at : (key : Key) (slots : List (Slot V)) (i : ℕ) (d : Slot V) → i < length slots → slot_has_key key (get_or slots i d) ≡ true → HasKeysApart (filled slots) → place_of key slots ≡ Some i
  has_at key [] i d within has apart = absurd (omega arith)
  has_at key (slot ∷ slots) zero d within has apart = rw has refl
  has_at key (Empty ∷ slots) (suc i) d within has apart = ap (option_map suc) (has_at key slots i d (omega arith) has apart)
  has_at key (Full k v ∷ slots) (suc i) d within has apart =
      let later : place_of key slots ≡ Some i = has_at key slots i d (omega arith) has apart.1 in
      elim (same_key k key) as (λ t. same_key k key ≡ t → cond t (Some 0) (option_map suc (place_of key slots)) ≡ Some (suc i)) [
        | true ↦ λ e. let none : value_at key (filled slots) ≡ None = subst (λ x. value_at x (filled slots) ≡ None) (same_key_is_same k key e) apart.0 in let nowhere : place_of key slots ≡ None = nowhere_found key slots (unmapped row_of _ none) in cc
        | false ↦ λ e. ap (option_map suc) later
      ] refl

  pub place_there : (key : Key) (slots : List (Slot V)) (i : ℕ) (slot : Slot V) (has : Bool) → has ≡ slot_has_key key slot → slot ≡ get_or slots i slot → i < length slots → HasKeysApart (filled slots) → OnTrue has (place_of key slots ≡ Some i)
  place_there key slots i slot true is here within apart = has_at key slots i slot within (ap (slot_has_key key) (sym here) ∙ sym is) apart
  place_there key slots i slot false is here within apart = tt

  -- a place that is found in a copy of the slots
  pub place_here : (key : Key) (slots copy : List (Slot V)) (i : ℕ) → copy ≡ slots → Some i ≡ place_of key copy → place_of key slots ≡ Some i
  place_here key slots copy i same at = ap (place_of key) (sym same) ∙ sym at

  -- and with none there is no row
  pub none_here : (key : Key) (slots copy : List (Slot V)) → copy ≡ slots → None ≡ place_of key copy → None ≡ value_at key (filled slots)
  none_here key slots copy same at = sym (ap (option_map row_of) (found_nowhere key slots (ap (place_of key) (sym same) ∙ sym at)))
