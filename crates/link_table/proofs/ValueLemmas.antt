-- What stands under a key once entries are added, removed or changed.
use Rattle.std.proofs.Common.{◌≡◌, List, [], ◌∷◌, ◌++◌, Bool, true, false, not, cond, Option, Some, None, Decides, refl, sym, ap, ◌∙◌}
use Rattle.std.specs.List.{find, filter}
use Rattle.std.specs.Option.{option_map}
use Rattle.rows.specs.Rows.{change_first}
use Rattle.row_index.specs.declared.key.Key.{Key}
use Rattle.row_index.specs.Rows.{same_key, has_key, lacks_key, with_row, row_of, value_at, put_at}
use Rattle.row_index.proofs.Keys.{same_key_is_same, same_key_itself}

-- keys are compared rightly
pub same_key_decides : (a b : Key) → Decides (same_key a b) (a ≡ b)
same_key_decides a b = (same_key_is_same a b, λ e. ap (λ x. same_key a x) (sym e) ∙ same_key_itself a)

module _ {A : Type 0} where
  -- what is left out doesn't pass
  pub find_among_fewer : (p q : A → Bool) → ((x : A) → p x ≡ true → q x ≡ false) → (xs : List A) → find p (filter (λ x. not (q x)) xs) ≡ find p xs
  find_among_fewer p q apart [] = refl
  find_among_fewer p q apart (x ∷ xs) =
      let rest = filter (λ x. not (q x)) xs in
      let later = find_among_fewer p q apart xs in
      elim (p x) as (λ t. p x ≡ t → find p (cond (not (q x)) (x ∷ rest) rest) ≡ cond t (Some x) (find p xs)) [
        | true ↦ λ h. rw (apart x h, h) refl
        | false ↦ λ h. elim (q x) as (λ s. find p (cond (not s) (x ∷ rest) rest) ≡ find p xs) [ true ↦ later | false ↦ rw h later ]
      ] refl

  -- what is left out is not found
  pub find_left_out : (q : A → Bool) (xs : List A) → find q (filter (λ x. not (q x)) xs) ≡ None
  find_left_out q [] = refl
  find_left_out q (x ∷ xs) =
      let rest = filter (λ x. not (q x)) xs in
      elim (q x) as (λ t. q x ≡ t → find q (cond (not t) (x ∷ rest) rest) ≡ None)
      [ true ↦ λ h. find_left_out q xs | false ↦ λ h. rw h (find_left_out q xs) ] refl

  -- where none passes, none is left out
  pub none_left_out : (q : A → Bool) (xs : List A) → find q xs ≡ None → filter (λ x. not (q x)) xs ≡ xs
  none_left_out q [] none = refl
  none_left_out q (x ∷ xs) none =
      elim (q x) as (λ t. cond t (Some x) (find q xs) ≡ None → cond (not t) (x ∷ filter (λ y. not (q y)) xs) (filter (λ y. not (q y)) xs) ≡ x ∷ xs)
      [ true ↦ λ h. cc | false ↦ λ h. ap (λ rest. x ∷ rest) (none_left_out q xs h) ] none

  -- what is added at the end is found where nothing is before it
  pub find_at_end : (p : A → Bool) (x : A) → p x ≡ true → (xs : List A) → find p xs ≡ None → find p (xs ++ x ∷ []) ≡ Some x
  find_at_end p x here [] none = rw here refl
  find_at_end p x here (y ∷ ys) none =
      elim (p y) as (λ t. cond t (Some y) (find p ys) ≡ None → cond t (Some y) (find p (ys ++ x ∷ [])) ≡ Some x)
      [ true ↦ λ h. cc | false ↦ λ h. find_at_end p x here ys h ] none

  -- what is added and doesn't pass changes nothing
  pub find_not_at_end : (p : A → Bool) (x : A) → p x ≡ false → (xs : List A) → find p (xs ++ x ∷ []) ≡ find p xs
  find_not_at_end p x fails [] = rw fails refl
  find_not_at_end p x fails (y ∷ ys) = ap (λ o. cond (p y) (Some y) o) (find_not_at_end p x fails ys)

  -- the one that is changed doesn't pass, before or after
  pub find_among_changed : (p q : A → Bool) (f : A → A) → ((x : A) → q x ≡ true → (p x ≡ false) × (p (f x) ≡ false)) → (xs : List A) → find p (change_first q f xs) ≡ find p xs
  find_among_changed p q f apart [] = refl
  find_among_changed p q f apart (x ∷ xs) =
      elim (q x) as (λ t. q x ≡ t → find p (cond t (f x ∷ xs) (x ∷ change_first q f xs)) ≡ find p (x ∷ xs)) [
        | true ↦ λ h. rw ((apart x h).0, (apart x h).1) refl
        | false ↦ λ h. ap (λ o. cond (p x) (Some x) o) (find_among_changed p q f apart xs)
      ] refl

  -- the first that passes, changed so that it still does
  pub find_changed : (q : A → Bool) (f : A → A) → ((x : A) → q (f x) ≡ q x) → (xs : List A) → find q (change_first q f xs) ≡ option_map f (find q xs)
  find_changed q f keeps [] = refl
  find_changed q f keeps (x ∷ xs) =
      elim (q x) as (λ t. q x ≡ t → find q (cond t (f x ∷ xs) (x ∷ change_first q f xs)) ≡ option_map f (cond t (Some x) (find q xs)))
      [ true ↦ λ h. rw (keeps x ∙ h) refl | false ↦ λ h. rw h (find_changed q f keeps xs) ] refl

module _ {V : Type 0} where
  unmapped : (o : Option (Key × V)) → option_map row_of o ≡ None → o ≡ None
  unmapped None e = refl
  unmapped (Some x) e = cc

  -- an entry of one key hasn't another
  apart_from : (k k₀ : Key) → same_key k k₀ ≡ false → (entry : Key × V) → has_key k entry ≡ true → has_key k₀ entry ≡ false
  apart_from k k₀ other entry here = ap (λ x. same_key x k₀) (same_key_is_same entry.0 k here) ∙ other

  apart_back : (k k₀ : Key) → same_key k k₀ ≡ false → (entry : Key × V) → has_key k₀ entry ≡ true → has_key k entry ≡ false
  apart_back k k₀ other entry here =
      elim (has_key k entry) as (λ t. has_key k entry ≡ t → t ≡ false) [ true ↦ λ h. sym here ∙ apart_from k k₀ other entry h | false ↦ λ h. refl ] refl

  pub value_of_added : (key : Key) (value : V) (entries : List (Key × V)) → value_at key entries ≡ None → value_at key (entries ++ (key, value) ∷ []) ≡ Some value
  value_of_added key value entries new =
      ap (option_map row_of) (find_at_end (has_key key) (key, value) (same_key_itself key) entries (unmapped (find (has_key key) entries) new))

  pub value_beside_added : (k key : Key) (value : V) (entries : List (Key × V)) → same_key k key ≡ false → value_at k (entries ++ (key, value) ∷ []) ≡ value_at k entries
  value_beside_added k key value entries other =
      ap (option_map row_of) (find_not_at_end (has_key k) (key, value) (apart_back k key other (key, value) (same_key_itself key)) entries)

  pub value_of_removed : (key : Key) (entries : List (Key × V)) → value_at key (filter (lacks_key key) entries) ≡ None
  value_of_removed key entries = ap (option_map row_of) (find_left_out (has_key key) entries)

  pub value_beside_removed : (k key : Key) (entries : List (Key × V)) → same_key k key ≡ false → value_at k (filter (lacks_key key) entries) ≡ value_at k entries
  value_beside_removed k key entries other =
      ap (option_map row_of) (find_among_fewer (has_key k) (has_key key) (apart_from k key other) entries)

  mapped_over : (value : V) (o : Option (Key × V)) (old : V) → option_map row_of o ≡ Some old → option_map row_of (option_map (with_row value) o) ≡ Some value
  mapped_over value None old e = cc
  mapped_over value (Some entry) old e = refl

  pub value_of_put : (key : Key) (value old : V) (entries : List (Key × V)) → value_at key entries ≡ Some old → value_at key (put_at key entries value) ≡ Some value
  value_of_put key value old entries there =
      ap (option_map row_of) (find_changed (has_key key) (with_row value) (λ _. refl) entries) ∙ mapped_over value (find (has_key key) entries) old there

  pub value_beside_put : (k key : Key) (value : V) (entries : List (Key × V)) → same_key k key ≡ false → value_at k (put_at key entries value) ≡ value_at k entries
  value_beside_put k key value entries other =
      ap (option_map row_of) (find_among_changed (has_key k) (has_key key) (with_row value) (λ entry here. (apart_back k key other entry here, apart_back k key other entry here)) entries)
