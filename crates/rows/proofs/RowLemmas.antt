use Rattle.std.proofs.Common.{◌≡◌, ℕ, zero, suc, ◌+◌, ◌<◌, ◌≤◌, List, [], ◌∷◌, Bool, true, false, cond, ltb, not, ◌||◌, Some, None, length, get_or, set, take, drop, refl, sym, ap, ◌∙◌, arith}
use Rattle.std.specs.List.{find, list_any, position, position_or_len, remove}
use Rattle.std.proofs.lemmas.List.Quantifiers.{position-Some}
use Rattle.std.proofs.lemmas.Bool.{ltb-false}
use Rattle.rows.specs.Rows.{change_first, remove_first}

-- a row that passes, behind rows that don't
change_first_at : {A : Type 0} (p : A → Bool) (f : A → A) (rows : List A) (i : ℕ) (d : A) → i < length rows → p (get_or rows i d) ≡ true → ((k : ℕ) → k < i → p (get_or rows k d) ≡ false) → change_first p f rows ≡ set rows i (f (get_or rows i d))
change_first_at p f [] i d within here below = absurd (omega arith)
change_first_at p f (row ∷ rows) zero d within here below = rw here refl
change_first_at p f (row ∷ rows) (suc i) d within here below =
    rw (below 0 (omega arith)) (ap (λ rest. row ∷ rest) (change_first_at p f rows i d (omega arith) here (λ k h. below (suc k) (omega arith))))

-- the row at the first place that passes is the one that changes
pub change_first_at_place : {A : Type 0} (p : A → Bool) (f : A → A) (rows : List A) (i : ℕ) (d : A) → position p rows ≡ Some i → change_first p f rows ≡ set rows i (f (get_or rows i d))
change_first_at_place p f rows i d e =
    let found = position-Some p rows i d e in change_first_at p f rows i d found.0 found.1 found.2

no_place : (a b : ℕ) → cond (ltb a b) (Some a) None ≡ None → b ≤ a
no_place a b e = elim (ltb a b) as (λ t. ltb a b ≡ t → cond t (Some a) None ≡ None → b ≤ a) [ true ↦ λ _ h. cc | false ↦ λ g _. ltb-false a b g ] refl e

none_passes : {A : Type 0} (p : A → Bool) (f : A → A) (rows : List A) → length rows ≤ position_or_len p rows → change_first p f rows ≡ rows
none_passes p f [] h = refl
none_passes p f (row ∷ rows) h =
    elim (p row) as (λ t. p row ≡ t → length (row ∷ rows) ≤ cond (not t) (1 + position_or_len p rows) 0 → cond t (f row ∷ rows) (row ∷ change_first p f rows) ≡ row ∷ rows)
    [ true ↦ λ _ g. absurd (omega arith) | false ↦ λ _ g. ap (λ rest. row ∷ rest) (none_passes p f rows (omega arith)) ] refl h

-- with no row that passes nothing changes
pub change_first_none : {A : Type 0} (p : A → Bool) (f : A → A) (rows : List A) → position p rows ≡ None → change_first p f rows ≡ rows
change_first_none p f rows e = none_passes p f rows (no_place _ _ e)

-- the same, with the row that was read there and the row that is written
pub set_is_change_first : {A : Type 0} (p : A → Bool) (f : A → A) (rows : List A) (i : ℕ) (row new : A) → position p rows ≡ Some i → row ≡ get_or rows i row → new ≡ f row → set rows i new ≡ change_first p f rows
set_is_change_first p f rows i row new e here is =
    ap (set rows i) (is ∙ ap f here) ∙ sym (change_first_at_place p f rows i row e)

remove_first_at : {A : Type 0} (p : A → Bool) (rows : List A) (i : ℕ) (d : A) → i < length rows → p (get_or rows i d) ≡ true → ((k : ℕ) → k < i → p (get_or rows k d) ≡ false) → remove rows i ≡ remove_first p rows
remove_first_at p [] i d within here below = absurd (omega arith)
remove_first_at p (row ∷ rows) zero d within here below = rw here refl
remove_first_at p (row ∷ rows) (suc i) d within here below =
    rw (below 0 (omega arith)) (ap (λ rest. row ∷ rest) (remove_first_at p rows i d (omega arith) here (λ k h. below (suc k) (omega arith))))

-- the row at the first place that passes is the one that is removed
pub remove_is_remove_first : {A : Type 0} (p : A → Bool) (rows : List A) (i : ℕ) → position p rows ≡ Some i → remove rows i ≡ remove_first p rows
remove_is_remove_first p [] i e = cc
remove_is_remove_first p (row ∷ rows) i e =
    let found = position-Some p (row ∷ rows) i row e in remove_first_at p (row ∷ rows) i row found.0 found.1 found.2

none_is_removed : {A : Type 0} (p : A → Bool) (rows : List A) → length rows ≤ position_or_len p rows → remove_first p rows ≡ rows
none_is_removed p [] h = refl
none_is_removed p (row ∷ rows) h =
    elim (p row) as (λ t. p row ≡ t → length (row ∷ rows) ≤ cond (not t) (1 + position_or_len p rows) 0 → cond t rows (row ∷ remove_first p rows) ≡ row ∷ rows)
    [ true ↦ λ _ g. absurd (omega arith) | false ↦ λ _ g. ap (λ rest. row ∷ rest) (none_is_removed p rows (omega arith)) ] refl h

-- with no row that passes none is removed
pub remove_first_none : {A : Type 0} (p : A → Bool) (rows : List A) → position p rows ≡ None → remove_first p rows ≡ rows
remove_first_none p rows e = none_is_removed p rows (no_place _ _ e)

found_at : {A : Type 0} (p : A → Bool) (rows : List A) (i : ℕ) (d : A) → i < length rows → p (get_or rows i d) ≡ true → ((k : ℕ) → k < i → p (get_or rows k d) ≡ false) → find p rows ≡ Some (get_or rows i d)
found_at p [] i d within here below = absurd (omega arith)
found_at p (row ∷ rows) zero d within here below = rw here refl
found_at p (row ∷ rows) (suc i) d within here below =
    rw (below 0 (omega arith)) (found_at p rows i d (omega arith) here (λ k h. below (suc k) (omega arith)))

-- the row that is read at the first place that passes is the first row that passes
pub find_is_there : {A : Type 0} (p : A → Bool) (rows : List A) (i : ℕ) (row : A) → position p rows ≡ Some i → row ≡ get_or rows i row → find p rows ≡ Some row
find_is_there p rows i row e here =
    let found = position-Some p rows i row e in found_at p rows i row found.0 found.1 found.2 ∙ ap Some (sym here)

none_found : {A : Type 0} (p : A → Bool) (rows : List A) → length rows ≤ position_or_len p rows → find p rows ≡ None
none_found p [] h = refl
none_found p (row ∷ rows) h =
    elim (p row) as (λ t. p row ≡ t → length (row ∷ rows) ≤ cond (not t) (1 + position_or_len p rows) 0 → cond t (Some row) (find p rows) ≡ None)
    [ true ↦ λ _ g. absurd (omega arith) | false ↦ λ _ g. none_found p rows (omega arith) ] refl h

-- with no place that passes no row does
pub find_none : {A : Type 0} (p : A → Bool) (rows : List A) → position p rows ≡ None → find p rows ≡ None
find_none p rows e = none_found p rows (no_place _ _ e)

-- the first of a list, and the others that are still wanted
pub take_first_of : {A : Type 0} (n m : ℕ) (x : A) (xs : List A) → n ≡ m + 1 → take n (x ∷ xs) ≡ x ∷ take m xs
take_first_of zero m x xs e = absurd (omega arith)
take_first_of (suc n) m x xs e = let same : n ≡ m = omega arith in ap (λ k. x ∷ take k xs) same

-- the same for what is left behind them
pub drop_first_of : {A : Type 0} (n m : ℕ) (x : A) (xs : List A) → n ≡ m + 1 → drop n (x ∷ xs) ≡ drop m xs
drop_first_of zero m x xs e = absurd (omega arith)
drop_first_of (suc n) m x xs e = let same : n ≡ m = omega arith in ap (λ k. drop k xs) same

-- the first row that passes, changed in another way that gives the same row there
pub change_first_as : {A : Type 0} (p : A → Bool) (f g : A → A) (rows : List A) (row : A) → find p rows ≡ Some row → f row ≡ g row → change_first p f rows ≡ change_first p g rows
change_first_as p f g [] row e same = refl
change_first_as p f g (first ∷ rows) row e same =
    elim (p first) as (λ t. cond t (Some first) (find p rows) ≡ Some row → cond t (f first ∷ rows) (first ∷ change_first p f rows) ≡ cond t (g first ∷ rows) (first ∷ change_first p g rows))
    [ true ↦ λ h. let here : first ≡ row = cc in ap (λ x. x ∷ rows) (ap f here ∙ same ∙ ap g (sym here)) | false ↦ λ h. ap (λ rest. first ∷ rest) (change_first_as p f g rows row h same) ] e

-- with no row that passes nothing changes
pub change_first_unfound : {A : Type 0} (p : A → Bool) (f : A → A) (rows : List A) → find p rows ≡ None → change_first p f rows ≡ rows
change_first_unfound p f [] e = refl
change_first_unfound p f (first ∷ rows) e =
    elim (p first) as (λ t. cond t (Some first) (find p rows) ≡ None → cond t (f first ∷ rows) (first ∷ change_first p f rows) ≡ first ∷ rows)
    [ true ↦ λ h. cc | false ↦ λ h. ap (λ rest. first ∷ rest) (change_first_unfound p f rows h) ] e

-- a change that leaves the first row that passes as it is changes nothing
pub change_first_kept : {A : Type 0} (p : A → Bool) (f : A → A) (rows : List A) (row : A) → find p rows ≡ Some row → f row ≡ row → change_first p f rows ≡ rows
change_first_kept p f [] row e same = refl
change_first_kept p f (first ∷ rows) row e same =
    elim (p first) as (λ t. cond t (Some first) (find p rows) ≡ Some row → cond t (f first ∷ rows) (first ∷ change_first p f rows) ≡ first ∷ rows)
    [ true ↦ λ h. let here : first ≡ row = cc in ap (λ x. x ∷ rows) (ap f here ∙ same ∙ sym here) | false ↦ λ h. ap (λ rest. first ∷ rest) (change_first_kept p f rows row h same) ] e

-- with no row that passes nothing changes
pub change_first_absent : {A : Type 0} (p : A → Bool) (f : A → A) (rows : List A) → list_any p rows ≡ false → change_first p f rows ≡ rows
change_first_absent p f [] e = refl
change_first_absent p f (first ∷ rows) e =
    elim (p first) as (λ t. (t || list_any p rows) ≡ false → cond t (f first ∷ rows) (first ∷ change_first p f rows) ≡ first ∷ rows)
    [ true ↦ λ h. cc | false ↦ λ h. ap (λ rest. first ∷ rest) (change_first_absent p f rows h) ] e
