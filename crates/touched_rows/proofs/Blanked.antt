-- Rows of which one was changed in a field that isn't looked at.
use Rattle.std.proofs.Common.{◌≡◌, List, [], ◌∷◌, Bool, true, false, cond, Option, Some, refl, sym, ap, ◌∙◌}
use Rattle.std.specs.Prelude.{filter, map, option_map}
use Rattle.std.specs.List.{All, find}
use Rattle.std.proofs.lemmas.List.Elements.{All-head, All-tail}
use Rattle.rows.specs.Rows.{change_first}

module _ {A : Type 0} (blank change : A → A) (unseen : (row : A) → blank (change row) ≡ blank row) (test : A → Bool) where
  -- the rows with that field blanked are the same
  pub rows_blanked : (rows : List A) → map blank (change_first test change rows) ≡ map blank rows
  rows_blanked [] = refl
  rows_blanked (row ∷ rows) =
      let rest = rows_blanked rows in
      elim (test row) as (λ t. map blank (cond t (change row ∷ rows) (row ∷ change_first test change rows)) ≡ blank row ∷ map blank rows)
      [ true ↦ ap (λ (first : A). first ∷ map blank rows) (unseen row) | false ↦ ap (λ (more : List A). blank row ∷ more) rest ]

  -- and so is the row that is found
  pub found_blanked : (sought : A → Bool) → ((row : A) → sought (change row) ≡ sought row) → (rows : List A)
      → option_map blank (find sought (change_first test change rows)) ≡ option_map blank (find sought rows)
  found_blanked sought stays [] = refl
  found_blanked sought stays (row ∷ rows) = by (test row) (found_blanked sought stays rows)
    where
      here : (is : Bool) → option_map blank (cond is (Some (change row)) (find sought rows)) ≡ option_map blank (cond is (Some row) (find sought rows))
      here true = ap Some (unseen row)
      here false = refl

      later : (is : Bool) → option_map blank (find sought (change_first test change rows)) ≡ option_map blank (find sought rows)
          → option_map blank (cond is (Some row) (find sought (change_first test change rows))) ≡ option_map blank (cond is (Some row) (find sought rows))
      later true rest = refl
      later false rest = rest

      by : (is : Bool) → option_map blank (find sought (change_first test change rows)) ≡ option_map blank (find sought rows)
          → option_map blank (find sought (cond is (change row ∷ rows) (row ∷ change_first test change rows))) ≡ option_map blank (find sought (row ∷ rows))
      by true rest =
          ap (λ (t : Bool). option_map blank (cond t (Some (change row)) (find sought rows))) (stays row) ∙ here (sought row)
      by false rest = later (sought row) rest

-- rows that pass a test, where neither the row that is found nor what it is changed to does
pub passing_changed : {A : Type 0} (passes test : A → Bool) (change : A → A) (rows : List A)
    → ((row : A) → find test rows ≡ Some row → (passes row ≡ false) × (passes (change row) ≡ false))
    → filter passes (change_first test change rows) ≡ filter passes rows
passing_changed passes test change [] fails = refl
passing_changed {A = A} passes test change (row ∷ rows) fails =
    by (test row) refl (λ fail. passing_changed passes test change rows fail)
  where
    by : (is : Bool) → test row ≡ is
        → (((x : A) → find test rows ≡ Some x → (passes x ≡ false) × (passes (change x) ≡ false)) → filter passes (change_first test change rows) ≡ filter passes rows)
        → filter passes (cond is (change row ∷ rows) (row ∷ change_first test change rows)) ≡ filter passes (row ∷ rows)
    by true is rest =
        let both = fails row (rw is refl) in
        ap (λ (t : Bool). cond t (change row ∷ filter passes rows) (filter passes rows)) both.1
        ∙ sym (ap (λ (t : Bool). cond t (row ∷ filter passes rows) (filter passes rows)) both.0)
    by false is rest =
        ap (λ (more : List A). cond (passes row) (row ∷ more) more) (rest (λ x found. fails x (rw is found)))

-- the row that is found, where none that was changed is sought
pub found_other : {A : Type 0} (sought test : A → Bool) (change : A → A) (rows : List A)
    → ((row : A) → test row ≡ true → (sought row ≡ false) × (sought (change row) ≡ false))
    → find sought (change_first test change rows) ≡ find sought rows
found_other sought test change [] other = refl
found_other {A = A} sought test change (row ∷ rows) other = by (test row) refl (found_other sought test change rows other)
  where
    by : (is : Bool) → test row ≡ is → find sought (change_first test change rows) ≡ find sought rows
        → find sought (cond is (change row ∷ rows) (row ∷ change_first test change rows)) ≡ find sought (row ∷ rows)
    by true is rest =
        let both = other row is in
        ap (λ (t : Bool). cond t (Some (change row)) (find sought rows)) both.1 ∙ sym (ap (λ (t : Bool). cond t (Some row) (find sought rows)) both.0)
    by false is rest = ap (λ (found : Option A). cond (sought row) (Some row) found) rest

-- the same, of the rows that are there
pub found_beside : {A : Type 0} (sought test : A → Bool) (change : A → A) (rows : List A)
    → All (λ (row : A). test row ≡ true → (sought row ≡ false) × (sought (change row) ≡ false)) rows
    → find sought (change_first test change rows) ≡ find sought rows
found_beside sought test change [] other = refl
found_beside {A = A} sought test change (row ∷ rows) other =
    by (test row) (All-head (λ (x : A). test x ≡ true → (sought x ≡ false) × (sought (change x) ≡ false)) row rows other)
    (found_beside sought test change rows (All-tail (λ (x : A). test x ≡ true → (sought x ≡ false) × (sought (change x) ≡ false)) row rows other))
  where
    by : (is : Bool) → (is ≡ true → (sought row ≡ false) × (sought (change row) ≡ false)) → find sought (change_first test change rows) ≡ find sought rows
        → find sought (cond is (change row ∷ rows) (row ∷ change_first test change rows)) ≡ find sought (row ∷ rows)
    by true unsought rest =
        let both = unsought refl in
        ap (λ (t : Bool). cond t (Some (change row)) (find sought rows)) both.1 ∙ sym (ap (λ (t : Bool). cond t (Some row) (find sought rows)) both.0)
    by false unsought rest = ap (λ (found : Option A). cond (sought row) (Some row) found) rest
