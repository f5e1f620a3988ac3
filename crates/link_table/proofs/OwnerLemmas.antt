-- The rows of one owner: where one is, and that none is left.
use Rattle.std.proofs.Common.{◌≡◌, ℕ, zero, suc, ◌-◌, ◌<◌, ◌≤◌, List, [], ◌∷◌, Bool, true, false, not, cond, ◌&&◌, ◌||◌, ◌==◌, Some, None, inl, inr, map, length, refl, sym, ap, ◌∙◌, arith}
use Rattle.std.specs.Cmp.{nat_eq_equiv}
use Rattle.std.specs.Prelude.{slice_get}
use Rattle.std.specs.List.{filter, list_any, count_by}
use Rattle.std.proofs.lemmas.Bool.{and_from, or_left, or_right}
use Rattle.std.proofs.lemmas.List.{length-map}
use Rattle.std.proofs.lemmas.List.Sums.{length-filter}
use Rattle.std.proofs.lemmas.Option.{slice_get_cases}
use Rattle.row_index.specs.declared.key.Key.{Key}
use Rattle.row_index.specs.Rows.{is_owned_by, row_of}
use Rattle.link_table.specs.Keyed.{entry_by, is_at, is_not_at, is_owners, is_not_owners}
use Rattle.link_table.specs.LinkIndex.{key}

module _ {A : Type 0} where
  got_first : (p q : A → Bool) (row : A) (rows : List A) (n : ℕ) (x : A) → p row ≡ true → (p x ≡ true → q x ≡ true) → ((m : ℕ) → slice_get (filter p rows) m ≡ Some x → list_any q rows ≡ true) → slice_get (row ∷ filter p rows) n ≡ Some x → (q row || list_any q rows) ≡ true
  got_first p q row rows zero x h passes later e = let is : row ≡ x = cc in or_left (q row) (list_any q rows) (ap q is ∙ passes (ap p (sym is) ∙ h))
  got_first p q row rows (suc n) x h passes later e = or_right (q row) (list_any q rows) (later n e)

  got_any : (p q : A → Bool) (rows : List A) (n : ℕ) (x : A) → (p x ≡ true → q x ≡ true) → slice_get (filter p rows) n ≡ Some x → list_any q rows ≡ true
  got_any p q [] n x passes e = cc
  got_any p q (row ∷ rows) n x passes e =
      elim (p row) as (λ t. p row ≡ t → slice_get (cond t (row ∷ filter p rows) (filter p rows)) n ≡ Some x → (q row || list_any q rows) ≡ true)
      [ true ↦ λ h there. got_first p q row rows n x h passes (λ m f. got_any p q rows m x passes f) there | false ↦ λ h there. or_right (q row) (list_any q rows) (got_any p q rows n x passes there) ] refl e

  -- where none is kept, none passes
  pub none_of : (p : A → Bool) (xs : List A) → length (filter p xs) ≡ 0 → list_any p xs ≡ false
  none_of p [] e = refl
  none_of p (x ∷ xs) e =
      elim (p x) as (λ t. length (cond t (x ∷ filter p xs) (filter p xs)) ≡ 0 → (t || list_any p xs) ≡ false)
      [ true ↦ λ h. absurd (omega arith) | false ↦ λ h. none_of p xs h ] e

  -- the last of some is there
  pub last_is_there : (xs : List A) (n : ℕ) → n ≡ length xs → (n ≡ 0 → ⊥) → slice_get xs (n - 1) ≡ None → ⊥
  last_is_there xs n e some none =
      elim (slice_get_cases xs (n - 1)).1 [
        | inl there ↦ (let clash : None ≡ Some there.0 = sym none ∙ there.2 in cc)
        | inr past ↦ (let over : length xs ≤ n - 1 = past.0 in some (omega arith))
      ]

  -- all, where none passes
  pub others_are_all : (p : A → Bool) (xs : List A) → list_any p xs ≡ false → filter (λ x. not (p x)) xs ≡ xs
  others_are_all p [] e = refl
  others_are_all p (x ∷ xs) e =
      let rest = filter (λ y. not (p y)) xs in
      elim (p x) as (λ t. (t || list_any p xs) ≡ false → cond (not t) (x ∷ rest) rest ≡ x ∷ xs)
      [ true ↦ λ h. cc | false ↦ λ h. ap (λ ys. x ∷ ys) (others_are_all p xs h) ] e

  -- what passes a test, without some that all fail it
  pub passing_kept : (p q : A → Bool) (xs : List A) → list_any p (filter q xs) ≡ false → filter p (filter (λ x. not (q x)) xs) ≡ filter p xs
  passing_kept p q [] e = refl
  passing_kept p q (x ∷ xs) e =
      let rest = filter (λ y. not (q y)) xs in
      elim (q x) as (λ t. list_any p (cond t (x ∷ filter q xs) (filter q xs)) ≡ false → filter p (cond (not t) (x ∷ rest) rest) ≡ filter p (x ∷ xs)) [
        | true ↦ λ h. elim (p x) as (λ s. (s || list_any p (filter q xs)) ≡ false → filter p rest ≡ cond s (x ∷ filter p xs) (filter p xs)) [ true ↦ λ g. cc | false ↦ λ g. passing_kept p q xs g ] h
        | false ↦ λ h. ap (λ ys. cond (p x) (x ∷ ys) ys) (passing_kept p q xs h)
      ] e

  fewer : (p : A → Bool) (xs : List A) → length (filter (λ x. not (p x)) xs) ≤ length xs
  fewer p [] = omega arith
  fewer p (x ∷ xs) =
      let rest = filter (λ y. not (p y)) xs in
      let later = fewer p xs in
      elim (p x) as (λ t. length (cond (not t) (x ∷ rest) rest) ≤ length (x ∷ xs)) [ true ↦ omega arith | false ↦ omega arith ]

  -- without one that is there, there are fewer
  pub one_less : (p : A → Bool) (xs : List A) → list_any p xs ≡ true → length (filter (λ x. not (p x)) xs) < length xs
  one_less p [] e = cc
  one_less p (x ∷ xs) e =
      let rest = filter (λ y. not (p y)) xs in
      let less = fewer p xs in
      elim (p x) as (λ t. (t || list_any p xs) ≡ true → length (cond (not t) (x ∷ rest) rest) < length (x ∷ xs))
      [ true ↦ λ h. omega arith | false ↦ λ h. let later = one_less p xs h in omega arith ] e

module _ {A : Type 0} (key_of : A → Key) where
  owned_entries : (owner : ℕ) (rows : List A) → map row_of (filter (is_owned_by owner) (map (entry_by key_of) rows)) ≡ filter (is_owners key_of owner) rows
  owned_entries owner [] = refl
  owned_entries owner (row ∷ rows) =
      elim (is_owners key_of owner row) as (λ t. map row_of (cond t (entry_by key_of row ∷ filter (is_owned_by owner) (map (entry_by key_of) rows)) (filter (is_owned_by owner) (map (entry_by key_of) rows))) ≡ cond t (row ∷ filter (is_owners key_of owner) rows) (filter (is_owners key_of owner) rows))
      [ true ↦ ap (λ xs. row ∷ xs) (owned_entries owner rows) | false ↦ owned_entries owner rows ]

  -- what an owner owns are its rows
  pub owned_rows : (owner : ℕ) (entries : List (Key × A)) → entries ≡ map (entry_by key_of) (map row_of entries) → map row_of (filter (is_owned_by owner) entries) ≡ filter (is_owners key_of owner) (map row_of entries)
  owned_rows owner entries keyed = ap (λ xs. map row_of (filter (is_owned_by owner) xs)) keyed ∙ owned_entries owner (map row_of entries)

  -- and as many
  pub owned_count : (owner : ℕ) (entries : List (Key × A)) → entries ≡ map (entry_by key_of) (map row_of entries) → count_by (is_owned_by owner) entries ≡ length (filter (is_owners key_of owner) (map row_of entries))
  owned_count owner entries keyed =
      sym (length-filter (is_owned_by owner) entries) ∙ sym (length-map (filter (is_owned_by owner) entries) row_of) ∙ ap length (owned_rows owner entries keyed)

  -- a row that is got of an owner is the one of that owner with its ID
  pub got_row : (owner n : ℕ) (row : A) (rows : List A) → slice_get (filter (is_owners key_of owner) rows) n ≡ Some row → list_any (is_at key_of (key owner (key_of row).id)) rows ≡ true
  got_row owner n row rows e =
      got_any (is_owners key_of owner) (is_at key_of (key owner (key_of row).id)) rows n row (λ h. and_from ((key_of row).owner == owner) ((key_of row).id == (key_of row).id) h (nat_eq_equiv.refl (key_of row).id)) e

  -- the rows of others, once a row of the owner is gone
  pub others_kept : (owner id : ℕ) (rows : List A) → filter (is_not_owners key_of owner) (filter (is_not_at key_of (key owner id)) rows) ≡ filter (is_not_owners key_of owner) rows
  others_kept owner id [] = refl
  others_kept owner id (row ∷ rows) =
      let rest = filter (is_not_at key_of (key owner id)) rows in
      let later = others_kept owner id rows in
      elim (is_owners key_of owner row) as (λ t. is_owners key_of owner row ≡ t → filter (is_not_owners key_of owner) (cond (not (t && (key_of row).id == id)) (row ∷ rest) rest) ≡ cond (not t) (row ∷ filter (is_not_owners key_of owner) rows) (filter (is_not_owners key_of owner) rows)) [
        | true ↦ λ h. elim ((key_of row).id == id) as (λ s. filter (is_not_owners key_of owner) (cond (not s) (row ∷ rest) rest) ≡ filter (is_not_owners key_of owner) rows) [ true ↦ later | false ↦ rw h later ]
        | false ↦ λ h. rw h (ap (λ xs. row ∷ xs) later)
      ] refl
