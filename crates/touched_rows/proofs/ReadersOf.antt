-- Which readers of a variable a change of rows leaves.
use Rattle.std.proofs.Common.{◌≡◌, ℕ, List, [], ◌∷◌, ◌++◌, Bool, true, false, cond, not, ◌||◌, Option, Some, refl, sym, ap, ◌∙◌}
use Rattle.std.specs.Prelude.{bytes_eq, filter, filter_map}
use Rattle.std.specs.List.{All, cons_option, find, list_any}
use Rattle.std.proofs.lemmas.Bool.{true≢false}
use Rattle.std.proofs.lemmas.List.{append-nil}
use Rattle.std.proofs.lemmas.List.Elements.{All-head, All-tail, filter-append}
use Rattle.std.proofs.lemmas.Slice.Eq.{bytes_eq-Decides}

-- names that differ, differ the other way round
pub other_name : (a b : List ℕ) → bytes_eq a b ≡ false → bytes_eq b a ≡ false
other_name a b differ =
    elim (bytes_eq b a) as (λ t. bytes_eq b a ≡ t → t ≡ false) [
      | true ↦ λ is. absurd (true≢false (sym ((bytes_eq-Decides a b).1 (sym ((bytes_eq-Decides b a).0 is))) ∙ differ))
      | false ↦ λ is. refl
    ] refl

-- one row more, which doesn't pass
pub passing_pushed : {A : Type 0} (passes : A → Bool) (rows : List A) (new : A) → passes new ≡ false → filter passes (rows ++ new ∷ []) ≡ filter passes rows
passing_pushed {A = A} passes rows new fails =
    filter-append passes rows (new ∷ []) ∙ ap (λ (t : Bool). filter passes rows ++ cond t (new ∷ []) []) fails ∙ append-nil (filter passes rows)

-- fewer rows, where those that are gone don't pass
pub passing_left : {A : Type 0} (passes stays : A → Bool) (rows : List A) → All (λ (row : A). stays row ≡ false → passes row ≡ false) rows
    → filter passes (filter stays rows) ≡ filter passes rows
passing_left passes stays [] fail = refl
passing_left {A = A} passes stays (row ∷ rows) fail =
    by (stays row) (All-head (λ (x : A). stays x ≡ false → passes x ≡ false) row rows fail)
    (passing_left passes stays rows (All-tail (λ (x : A). stays x ≡ false → passes x ≡ false) row rows fail))
  where
    by : (is : Bool) → (is ≡ false → passes row ≡ false) → filter passes (filter stays rows) ≡ filter passes rows
        → filter passes (cond is (row ∷ filter stays rows) (filter stays rows)) ≡ cond (passes row) (row ∷ filter passes rows) (filter passes rows)
    by true fails rest = ap (λ (more : List A). cond (passes row) (row ∷ more) more) rest
    by false fails rest = rest ∙ sym (ap (λ (t : Bool). cond t (row ∷ filter passes rows) (filter passes rows)) (fails refl))

-- the same row is found
pub found_left : {A : Type 0} (sought stays : A → Bool) (rows : List A) → All (λ (row : A). stays row ≡ false → sought row ≡ false) rows
    → find sought (filter stays rows) ≡ find sought rows
found_left sought stays [] fail = refl
found_left {A = A} sought stays (row ∷ rows) fail =
    by (stays row) (All-head (λ (x : A). stays x ≡ false → sought x ≡ false) row rows fail)
    (found_left sought stays rows (All-tail (λ (x : A). stays x ≡ false → sought x ≡ false) row rows fail))
  where
    by : (is : Bool) → (is ≡ false → sought row ≡ false) → find sought (filter stays rows) ≡ find sought rows
        → find sought (cond is (row ∷ filter stays rows) (filter stays rows)) ≡ cond (sought row) (Some row) (find sought rows)
    by true fails rest = ap (λ (found : Option A). cond (sought row) (Some row) found) rest
    by false fails rest = rest ∙ sym (ap (λ (t : Bool). cond t (Some row) (find sought rows)) (fails refl))

-- none of fewer rows passes where none passed
pub none_left : {A : Type 0} (passes stays : A → Bool) (rows : List A) → filter passes rows ≡ [] → filter passes (filter stays rows) ≡ []
none_left passes stays [] none = refl
none_left passes stays (row ∷ rows) none = by (passes row) (stays row) refl none (λ rest. none_left passes stays rows rest)
  where
    by : (is kept : Bool) → passes row ≡ is → cond is (row ∷ filter passes rows) (filter passes rows) ≡ [] → (filter passes rows ≡ [] → filter passes (filter stays rows) ≡ [])
        → filter passes (cond kept (row ∷ filter stays rows) (filter stays rows)) ≡ []
    by true kept is none rest = absurd cc
    by false true is none rest = rw is (rest none)
    by false false is none rest = rest none

pub not_not : (t : Bool) → not t ≡ false → t ≡ true
not_not true e = refl
not_not false e = absurd (true≢false e)

-- the rows that are left, by another test that says the same of them
pub passing_of_left : {A : Type 0} (passes before stays : A → Bool) → ((row : A) → stays row ≡ true → passes row ≡ before row) → ((row : A) → stays row ≡ false → before row ≡ false)
    → (rows : List A) → filter passes (filter stays rows) ≡ filter before rows
passing_of_left passes before stays alike fail [] = refl
passing_of_left {A = A} passes before stays alike fail (row ∷ rows) = by (stays row) (alike row) (fail row) (passing_of_left passes before stays alike fail rows)
  where
    by : (is : Bool) → (is ≡ true → passes row ≡ before row) → (is ≡ false → before row ≡ false) → filter passes (filter stays rows) ≡ filter before rows
        → filter passes (cond is (row ∷ filter stays rows) (filter stays rows)) ≡ cond (before row) (row ∷ filter before rows) (filter before rows)
    by true same fails rest = let first = same refl in λ i. cond (first i) (row ∷ rest i) (rest i)
    by false same fails rest = rest ∙ sym (ap (λ (t : Bool). cond t (row ∷ filter before rows) (filter before rows)) (fails refl))

-- none of them passes where none passed
pub none_of_left : {A : Type 0} (passes before stays : A → Bool) → ((row : A) → stays row ≡ true → passes row ≡ before row) → (rows : List A)
    → filter before rows ≡ [] → filter passes (filter stays rows) ≡ []
none_of_left passes before stays alike [] none = refl
none_of_left {A = A} passes before stays alike (row ∷ rows) none = by (stays row) (before row) (alike row) none (λ rest. none_of_left passes before stays alike rows rest)
  where
    by : (is held : Bool) → (is ≡ true → passes row ≡ held) → cond held (row ∷ filter before rows) (filter before rows) ≡ []
        → (filter before rows ≡ [] → filter passes (filter stays rows) ≡ []) → filter passes (cond is (row ∷ filter stays rows) (filter stays rows)) ≡ []
    by is true same none rest = absurd cc
    by true false same none rest = rw (same refl) (rest none)
    by false false same none rest = rest none

-- whether some row passes
pub any_left : {A : Type 0} (passes stays : A → Bool) (rows : List A) → All (λ (row : A). stays row ≡ false → passes row ≡ false) rows
    → list_any passes (filter stays rows) ≡ list_any passes rows
any_left passes stays [] fail = refl
any_left {A = A} passes stays (row ∷ rows) fail =
    by (stays row) (All-head (λ (x : A). stays x ≡ false → passes x ≡ false) row rows fail)
    (any_left passes stays rows (All-tail (λ (x : A). stays x ≡ false → passes x ≡ false) row rows fail))
  where
    by : (is : Bool) → (is ≡ false → passes row ≡ false) → list_any passes (filter stays rows) ≡ list_any passes rows
        → list_any passes (cond is (row ∷ filter stays rows) (filter stays rows)) ≡ (passes row || list_any passes rows)
    by true fails rest = ap (λ (t : Bool). passes row || t) rest
    by false fails rest = rest ∙ sym (ap (λ (t : Bool). t || list_any passes rows) (fails refl))

-- tests, and notices, that say the same of each row
pub filtered_alike : {A : Type 0} (test other : A → Bool) (rows : List A) → All (λ (row : A). test row ≡ other row) rows → filter test rows ≡ filter other rows
filtered_alike test other [] alike = refl
filtered_alike {A = A} test other (row ∷ rows) alike =
    let first = All-head (λ (x : A). test x ≡ other x) row rows alike in
    let rest = filtered_alike test other rows (All-tail (λ (x : A). test x ≡ other x) row rows alike) in
    λ i. cond (first i) (row ∷ rest i) (rest i)

pub planned_alike : {A B : Type 0} (notice other : A → Option B) (rows : List A) → All (λ (row : A). notice row ≡ other row) rows → filter_map notice rows ≡ filter_map other rows
planned_alike notice other [] alike = refl
planned_alike {A = A} notice other (row ∷ rows) alike =
    let first = All-head (λ (x : A). notice x ≡ other x) row rows alike in
    let rest = planned_alike notice other rows (All-tail (λ (x : A). notice x ≡ other x) row rows alike) in
    λ i. cons_option (first i) (rest i)
