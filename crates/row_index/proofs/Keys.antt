-- Keys of entries: which are found, and that they stay apart.
use Rattle.std.proofs.Common.{◌≡◌, List, [], ◌∷◌, ◌++◌, Bool, true, false, cond, ◌&&◌, ◌==◌, Option, Some, None, filter, refl, sym, ◌∙◌, true≢false}
use Rattle.std.specs.Cmp.{nat_eq_equiv}
use Rattle.std.specs.List.{find}
use Rattle.std.specs.Option.{option_map}
use Rattle.std.proofs.lemmas.Bool.{eqb-true}
use Rattle.row_index.specs.declared.key.Key.{Key}
use Rattle.row_index.specs.Rows.{same_key, row_of, has_key, with_row, value_at, put_at, HasKeysApart}

-- equal keys are the same
pub same_key_is_same : (a b : Key) → same_key a b ≡ true → a ≡ b
same_key_is_same a b e =
    elim (a.owner == b.owner) as (λ t. a.owner == b.owner ≡ t → (t && a.id == b.id) ≡ true → a ≡ b) [
      | true ↦ λ owner id. let first = eqb-true a.owner b.owner owner in let second = eqb-true a.id b.id id in (λ i. record { owner = first i; id = second i })
      | false ↦ λ owner id. absurd (true≢false (sym id))
    ] refl e

-- a key is equal to itself
pub same_key_itself : (a : Key) → same_key a a ≡ true
same_key_itself a = rw (nat_eq_equiv.refl a.owner, nat_eq_equiv.refl a.id) refl

-- it doesn't matter which key is asked
pub same_key_flips : (a b : Key) → same_key a b ≡ same_key b a
same_key_flips a b = λ i. nat_eq_equiv.symm a.owner b.owner i && nat_eq_equiv.symm a.id b.id i

module _ {A B : Type 0} where
  pub unmapped : (f : A → B) (o : Option A) → option_map f o ≡ None → o ≡ None
  unmapped f None e = refl
  unmapped f (Some x) e = cc

  -- with none found behind a first item, that item doesn't pass
  pub first_fails : (p : A → Bool) (f : A → B) (x : A) (xs : List A) → option_map f (find p (x ∷ xs)) ≡ None → p x ≡ false
  first_fails p f x xs e =
      elim (p x) as (λ t. option_map f (cond t (Some x) (find p xs)) ≡ None → t ≡ false) [ true ↦ λ h. cc | false ↦ λ h. refl ] e

  -- nor does another
  pub later_fail : (p : A → Bool) (f : A → B) (x : A) (xs : List A) → option_map f (find p (x ∷ xs)) ≡ None → option_map f (find p xs) ≡ None
  later_fail p f x xs e =
      elim (p x) as (λ t. option_map f (cond t (Some x) (find p xs)) ≡ None → option_map f (find p xs) ≡ None) [ true ↦ λ h. cc | false ↦ λ h. h ] e

  pub none_of : (p : A → Bool) (f : A → B) (x : A) (xs : List A) → p x ≡ false → option_map f (find p xs) ≡ None → option_map f (find p (x ∷ xs)) ≡ None
  none_of p f x xs first later = rw first later

  none_of_more : (p : A → Bool) (f : A → B) (xs : List A) (x : A) → p x ≡ false → option_map f (find p xs) ≡ None → option_map f (find p (xs ++ x ∷ [])) ≡ None
  none_of_more p f [] x last none = rw last refl
  none_of_more p f (y ∷ ys) x last none =
      none_of p f y (ys ++ x ∷ []) (first_fails p f y ys none) (none_of_more p f ys x last (later_fail p f y ys none))

  none_of_fewer : (p : A → Bool) (f : A → B) (q : A → Bool) (xs : List A) → option_map f (find p xs) ≡ None → option_map f (find p (filter q xs)) ≡ None
  none_of_fewer p f q [] none = none
  none_of_fewer p f q (y ∷ ys) none =
      let later = none_of_fewer p f q ys (later_fail p f y ys none) in
      elim (q y) as (λ t. option_map f (find p (cond t (y ∷ filter q ys) (filter q ys))) ≡ None)
      [ true ↦ none_of p f y (filter q ys) (first_fails p f y ys none) later | false ↦ later ]

module _ {V : Type 0} where
  -- an entry with a new key leaves keys apart
  pub apart_with_more : (entries : List (Key × V)) (key : Key) (value : V) → value_at key entries ≡ None → HasKeysApart entries → HasKeysApart (entries ++ (key, value) ∷ [])
  apart_with_more [] key value new apart = (refl, tt)
  apart_with_more (entry ∷ later) key value new apart = (
    none_of_more (has_key entry.0) row_of later (key, value) (same_key_flips key entry.0 ∙ first_fails (has_key key) row_of entry later new) apart.0,
    apart_with_more later key value (later_fail (has_key key) row_of entry later new) apart.1,
  )

  -- some of the entries have their keys apart
  pub apart_with_fewer : (q : Key × V → Bool) (entries : List (Key × V)) → HasKeysApart entries → HasKeysApart (filter q entries)
  apart_with_fewer q [] apart = tt
  apart_with_fewer q (entry ∷ later) apart =
      let rest = apart_with_fewer q later apart.1 in
      elim (q entry) as (λ t. HasKeysApart (cond t (entry ∷ filter q later) (filter q later)))
      [ true ↦ (none_of_fewer (has_key entry.0) row_of q later apart.0, rest) | false ↦ rest ]

  none_of_put : (other key : Key) (entries : List (Key × V)) (value : V) → value_at other entries ≡ None → value_at other (put_at key entries value) ≡ None
  none_of_put other key [] value none = none
  none_of_put other key (entry ∷ later) value none =
      let first = first_fails (has_key other) row_of entry later none in
      let rest = later_fail (has_key other) row_of entry later none in
      elim (has_key key entry) as (λ t. value_at other (cond t (with_row value entry ∷ later) (entry ∷ put_at key later value)) ≡ None) [
        | true ↦ none_of (has_key other) row_of (with_row value entry) later first rest
        | false ↦ none_of (has_key other) row_of entry (put_at key later value) first (none_of_put other key later value rest)
      ]

  -- another value under a key leaves keys apart
  pub apart_with_put : (key : Key) (entries : List (Key × V)) (value : V) → HasKeysApart entries → HasKeysApart (put_at key entries value)
  apart_with_put key [] value apart = tt
  apart_with_put key (entry ∷ later) value apart =
      elim (has_key key entry) as (λ t. HasKeysApart (cond t (with_row value entry ∷ later) (entry ∷ put_at key later value)))
      [ true ↦ (apart.0, apart.1) | false ↦ (none_of_put entry.0 key later value apart.0, apart_with_put key later value apart.1) ]
