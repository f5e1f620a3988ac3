-- Rows that are taken one by one, by their number.
use Rattle.std.proofs.Common.{◌≡◌, ℕ, zero, suc, ◌+◌, ◌≤◌, List, [], ◌∷◌, ◌++◌, Bool, true, false, cond, Some, None, drop, map, filter, refl, sym, ap, ◌∙◌, arith}
use Rattle.std.specs.Prelude.{count_by, slice_get}
use Rattle.std.proofs.Math.Numerals.{suc-eq-add-one}
use Rattle.std.proofs.lemmas.List.{append_assoc, append-nil, drop_all, map-append}
use Rattle.std.proofs.lemmas.List.Sums.{length-filter}

drop_there : {A : Type 0} (rows : List A) (n : ℕ) (row : A) → slice_get rows n ≡ Some row → drop n rows ≡ row ∷ drop (suc n) rows
drop_there [] n row is = absurd cc
drop_there (first ∷ rows) zero row is = cc
drop_there (first ∷ rows) (suc n) row is = drop_there rows n row is

drop_past : {A : Type 0} (rows : List A) (n : ℕ) → slice_get rows n ≡ None → drop (suc n) rows ≡ drop n rows
drop_past [] zero is = refl
drop_past [] (suc n) is = refl
drop_past (first ∷ rows) zero is = absurd cc
drop_past (first ∷ rows) (suc n) is = drop_past rows n is

-- one more is taken
pub taken_one_more : {A : Type 0} (rows done : List A) (n : ℕ) (row : A) → done ++ drop n rows ≡ rows → slice_get rows n ≡ Some row → (done ++ row ∷ []) ++ drop (n + 1) rows ≡ rows
taken_one_more {A = A} rows done n row so_far is = rw (sym (suc-eq-add-one n)) (append_assoc done (row ∷ []) (drop (suc n) rows) ∙ ap (λ (left : List A). done ++ left) (sym (drop_there rows n row is)) ∙ so_far)

-- none is left
pub taken_none : {A : Type 0} (rows done : List A) (n : ℕ) → done ++ drop n rows ≡ rows → slice_get rows n ≡ None → done ++ drop (n + 1) rows ≡ rows
taken_none {A = A} rows done n so_far is = rw (sym (suc-eq-add-one n)) (ap (λ (left : List A). done ++ left) (drop_past rows n is) ∙ so_far)

-- the same of those that pass a test: one more of them is taken
pub kept_one_more : {A : Type 0} (test : A → Bool) (rows done whole : List A) (n : ℕ) (row : A) → done ++ filter test (drop n rows) ≡ whole → slice_get rows n ≡ Some row → test row ≡ true
    → (done ++ row ∷ []) ++ filter test (drop (n + 1) rows) ≡ whole
kept_one_more {A = A} test rows done whole n row so_far is passes =
    let rest : List A = filter test (drop (suc n) rows) in
    rw (sym (suc-eq-add-one n)) (append_assoc done (row ∷ []) rest
    ∙ ap (λ (left : List A). done ++ left) (sym (ap (filter test) (drop_there rows n row is) ∙ ap (λ (t : Bool). cond t (row ∷ rest) rest) passes)) ∙ so_far)

-- one is passed over
pub passed_one_more : {A : Type 0} (test : A → Bool) (rows done whole : List A) (n : ℕ) (row : A) → done ++ filter test (drop n rows) ≡ whole → slice_get rows n ≡ Some row → test row ≡ false
    → done ++ filter test (drop (n + 1) rows) ≡ whole
passed_one_more {A = A} test rows done whole n row so_far is fails =
    let rest : List A = filter test (drop (suc n) rows) in
    rw (sym (suc-eq-add-one n)) (ap (λ (left : List A). done ++ left) (sym (ap (filter test) (drop_there rows n row is) ∙ ap (λ (t : Bool). cond t (row ∷ rest) rest) fails)) ∙ so_far)

-- none is left
pub kept_none : {A : Type 0} (test : A → Bool) (rows done whole : List A) (n : ℕ) → done ++ filter test (drop n rows) ≡ whole → slice_get rows n ≡ None → done ++ filter test (drop (n + 1) rows) ≡ whole
kept_none {A = A} test rows done whole n so_far is = rw (sym (suc-eq-add-one n)) (ap (λ (left : List A). done ++ filter test left) (drop_past rows n is) ∙ so_far)

-- the same of rows that are seen through what is taken
pub seen_one_more : {A B : Type 0} (see : B → A) (rows : List A) (done : List B) (n : ℕ) (row : B) → map see done ++ drop n rows ≡ rows → slice_get rows n ≡ Some (see row)
    → map see (done ++ row ∷ []) ++ drop (n + 1) rows ≡ rows
seen_one_more {A = A} see rows done n row so_far is =
    ap (λ (left : List A). left ++ drop (n + 1) rows) (map-append see done (row ∷ [])) ∙ taken_one_more rows (map see done) n (see row) so_far is

-- all that pass the first test are taken once as many are as pass the second one
pub all_kept : {A : Type 0} (kept test : A → Bool) (rows done : List A) (n : ℕ) → count_by test rows ≤ n → done ++ filter kept (drop n (filter test rows)) ≡ filter kept (filter test rows) → done ≡ filter kept (filter test rows)
all_kept {A = A} kept test rows done n enough so_far =
    sym (append-nil done) ∙ ap (λ (left : List A). done ++ filter kept left) (sym (drop_all n (filter test rows) (omega (arith, enough, length-filter test rows)))) ∙ so_far
