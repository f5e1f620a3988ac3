-- What is known of the keys of a list, as it changes.
use Rattle.std.proofs.Common.{◌≡◌, ◌≤◌, ◌<◌, ◌+◌, ◌&&◌, ◌==◌, length, take, drop, arith, ℕ, zero, suc, List, [], ◌∷◌, ◌++◌, Bool, true, false, cond, filter, refl, sym, ap, subst, ◌∙◌}
use Rattle.std.specs.List.{All}
use Rattle.std.specs.Prelude.{IsTrue}
use Rattle.std.proofs.lemmas.Bool.{eqb-true}
use Rattle.std.proofs.lemmas.List.Elements.{All-nil, All-cons, All-head, All-tail, All-append, All-take, All-drop}
use Rattle.row_index.specs.declared.key.Key.{Key}
use Rattle.row_index.specs.KeyLists.{AreApart, AreKnown, IsUpTo, but_last}
use Rattle.row_index.specs.Lists.{is_key}
use Rattle.row_index.specs.Rows.{same_key}
use Rattle.row_index.proofs.Keys.{same_key_is_same}
use Rattle.row_index.proofs.Once.{passing_more, passing_fewer}

module _ (top key : Key) where
  -- no key has an owner that is greater than all
  pub none_owns : (keys : List Key) → All (IsUpTo top) keys → top.owner < key.owner → length (filter (is_key key) keys) ≡ 0
  none_owns [] up beyond = refl
  none_owns (k ∷ keys) up beyond =
      let here = All-head (IsUpTo top) k keys up in
      let rest = none_owns keys (All-tail (IsUpTo top) k keys up) beyond in
      elim (k.owner == key.owner) as (λ t. k.owner == key.owner ≡ t → length (cond (t && k.id == key.id) (k ∷ filter (is_key key) keys) (filter (is_key key) keys)) ≡ 0) [
        | true ↦ λ e. let same = eqb-true k.owner key.owner e in let least = here.0 in absurd (omega arith)
        | false ↦ λ e. rest
      ] refl

  -- nor such an ID
  pub none_has_id : (keys : List Key) → All (IsUpTo top) keys → top.id < key.id → length (filter (is_key key) keys) ≡ 0
  none_has_id [] up beyond = refl
  none_has_id (k ∷ keys) up beyond =
      let here = All-head (IsUpTo top) k keys up in
      let rest = none_has_id keys (All-tail (IsUpTo top) k keys up) beyond in
      elim (k.id == key.id) as (λ t. k.id == key.id ≡ t → length (cond (k.owner == key.owner && t) (k ∷ filter (is_key key) keys) (filter (is_key key) keys)) ≡ 0) [
        | true ↦ λ e. let same = eqb-true k.id key.id e in let least = here.1 in absurd (omega arith)
        | false ↦ λ e. elim (k.owner == key.owner) as (λ t. length (cond (t && false) (k ∷ filter (is_key key) keys) (filter (is_key key) keys)) ≡ 0) [ true ↦ rest | false ↦ rest ]
      ] refl

-- a new key leaves them apart
pub apart_more : (key : Key) (keys : List Key) → length (filter (is_key key) keys) ≡ 0 → AreApart keys → AreApart (keys ++ key ∷ [])
apart_more key keys new apart q =
    let more = passing_more (is_key q) keys key in
    let before = apart q in
    elim (same_key key q) as (λ t. same_key key q ≡ t → length (filter (is_key q) (keys ++ key ∷ [])) ≤ 1) [
      | true ↦ λ e.
          let none : length (filter (is_key q) keys) ≡ 0 = subst (λ k. length (filter (is_key k) keys) ≡ 0) (same_key_is_same key q e) new in
          let one : length (filter (is_key q) (keys ++ key ∷ [])) ≡ length (filter (is_key q) keys) + 1 = more ∙ ap (λ t. length (filter (is_key q) keys) + cond t 1 0) e in
          omega arith
      | false ↦ λ e.
          let same : length (filter (is_key q) (keys ++ key ∷ [])) ≡ length (filter (is_key q) keys) + 0 = more ∙ ap (λ t. length (filter (is_key q) keys) + cond t 1 0) e in
          omega arith
    ] refl

-- so does taking some out
pub apart_fewer : (kept : Key → Bool) (keys : List Key) → AreApart keys → AreApart (filter kept keys)
apart_fewer kept keys apart q =
    let fewer = passing_fewer (is_key q) kept keys in
    let before = apart q in
    omega arith

module _ {X : Type 0} where
  -- before a new last one stand all that were there
  pub but_last_more : (xs : List X) (x : X) → but_last (xs ++ x ∷ []) ≡ xs
  but_last_more [] x = refl
  but_last_more (y ∷ []) x = refl
  but_last_more (y ∷ z ∷ xs) x = ap (λ rest. y ∷ rest) (but_last_more (z ∷ xs) x)

  -- without the last one, all but the last are left
  pub last_out : (xs : List X) (i : ℕ) → suc i ≡ length xs → take i xs ++ drop (suc i) xs ≡ but_last xs
  last_out [] i is = absurd (omega arith)
  last_out (x ∷ []) zero is = refl
  last_out (x ∷ []) (suc i) is = absurd (omega arith)
  last_out (x ∷ y ∷ xs) zero is = absurd (omega arith)
  last_out (x ∷ y ∷ xs) (suc i) is = ap (λ rest. x ∷ rest) (last_out (y ∷ xs) i (omega arith))

module _ {X : Type 0} (P : X → Type 0) where
  -- what is so of all is so without one of them
  pub all_but_one : (xs : List X) (i : ℕ) → All P xs → All P (take i xs ++ drop (suc i) xs)
  all_but_one xs i all = All-append P (take i xs) (drop (suc i) xs) (All-take P i xs all) (All-drop P (suc i) xs all)

  with_first : (x : X) (xs : List X) → P x → All P (but_last xs) → All P (but_last (x ∷ xs))
  with_first x [] first rest = All-nil P
  with_first x (y ∷ ys) first rest = All-cons P x (but_last (y ∷ ys)) first rest

  -- what is so of all but the last is so of all but the last of some
  pub but_last_fewer : (kept : X → Bool) (xs : List X) → All P (but_last xs) → All P (but_last (filter kept xs))
  but_last_fewer kept [] all = all
  but_last_fewer kept (x ∷ []) all =
      elim (kept x) as (λ t. All P (but_last (cond t (x ∷ []) []))) [ true ↦ all | false ↦ all ]
  but_last_fewer kept (x ∷ y ∷ xs) all =
      let rest = but_last_fewer kept (y ∷ xs) (All-tail P x (but_last (y ∷ xs)) all) in
      elim (kept x) as (λ t. All P (but_last (cond t (x ∷ filter kept (y ∷ xs)) (filter kept (y ∷ xs)))))
      [ true ↦ with_first x (filter kept (y ∷ xs)) (All-head P x (but_last (y ∷ xs)) all) rest | false ↦ rest ]

-- what is known of all is known of some, under a top of their own
pub known_fewer : (top under less : Key) (known : Bool) (keys : List Key) (kept : Key → Bool) → AreKnown top under known keys → All (IsUpTo less) (filter kept keys) → AreKnown less under known (filter kept keys)
known_fewer top under less known keys kept all up = record {
  up_to = up;
  before = but_last_fewer (IsUpTo under) kept keys all.before;
  apart = λ t. apart_fewer kept keys (all.apart t);
}

-- what is up to a key is up to one above it
pub up_to_above : (top above : Key) (keys : List Key) → IsUpTo above top → All (IsUpTo top) keys → All (IsUpTo above) keys
up_to_above top above [] more up = All-nil (IsUpTo above)
up_to_above top above (k ∷ keys) more up =
    let here = All-head (IsUpTo top) k keys up in
    let owner : k.owner ≤ above.owner = let first = here.0 in let second = more.0 in omega arith in
    let id : k.id ≤ above.id = let first = here.1 in let second = more.1 in omega arith in
    All-cons (IsUpTo above) k keys (owner, id) (up_to_above top above keys more (All-tail (IsUpTo top) k keys up))

-- a further key, with what was the top under it
pub known_more : (top under above : Key) (known : Bool) (keys : List Key) (key : Key) → AreKnown top under known keys → All (IsUpTo above) (keys ++ key ∷ []) → (known_then : Bool) → (IsTrue known_then → AreApart (keys ++ key ∷ [])) → AreKnown above top known_then (keys ++ key ∷ [])
known_more top under above known keys key all up known_then apart = record {
  up_to = up;
  before = subst (All (IsUpTo top)) (sym (but_last_more keys key)) all.up_to;
  apart = apart;
}
