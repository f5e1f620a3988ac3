-- Plans over the rows that were touched alone: where a row that wasn't touched has no notice, the plan
-- over all rows is the plan over those that were.
use Rattle.std.proofs.Common.{◌≡◌, List, [], ◌∷◌, ◌++◌, Bool, true, false, cond, Option, Some, None, refl, sym, ap, subst, ◌∙◌}
use Rattle.std.specs.Prelude.{filter, filter_map, flat_map}
use Rattle.std.specs.List.{All, cons_option, find}
use Rattle.std.proofs.lemmas.List.Elements.{All-cons, All-head, All-tail, filter_map-append}
use Rattle.rows.specs.Rows.{change_first, remove_first}

-- a row that wasn't touched has no notice
abbrev pub IsQuiet : {A B : Type 0} → (A → Option B) → (A → Bool) → A → Type 0
IsQuiet notice touched row = touched row ≡ false → notice row ≡ None

pub touched_alone : {A B : Type 0} (notice : A → Option B) (touched : A → Bool) (rows : List A)
    → All (IsQuiet notice touched) rows → filter_map notice rows ≡ filter_map notice (filter touched rows)
touched_alone notice touched [] quiet = refl
touched_alone {A = A} {B = B} notice touched (row ∷ rows) quiet =
    by (touched row) (All-head (IsQuiet notice touched) row rows quiet) (touched_alone notice touched rows (All-tail (IsQuiet notice touched) row rows quiet))
  where
    by : (is : Bool) → (is ≡ false → notice row ≡ None) → filter_map notice rows ≡ filter_map notice (filter touched rows)
        → cons_option (notice row) (filter_map notice rows) ≡ filter_map notice (cond is (row ∷ filter touched rows) (filter touched rows))
    by true none rest = ap (λ (more : List B). cons_option (notice row) more) rest
    by false none rest = ap (λ (first : Option B). cons_option first (filter_map notice rows)) (none refl) ∙ rest

-- with no notice at all the plan is empty
pub none_planned : {A B : Type 0} (notice : A → Option B) (rows : List A) → All (λ (row : A). notice row ≡ None) rows → filter_map notice rows ≡ []
none_planned notice [] none = refl
none_planned {A = A} {B = B} notice (row ∷ rows) none =
    ap (λ (first : Option B). cons_option first (filter_map notice rows)) (All-head (λ (x : A). notice x ≡ None) row rows none)
    ∙ none_planned notice rows (All-tail (λ (x : A). notice x ≡ None) row rows none)

-- the same of rows with several notices each
pub none_planned_flat : {A B : Type 0} (notices : A → List B) (rows : List A) → All (λ (row : A). notices row ≡ []) rows → flat_map notices rows ≡ []
none_planned_flat notices [] none = refl
none_planned_flat {A = A} {B = B} notices (row ∷ rows) none =
    ap (λ (first : List B). first ++ flat_map notices rows) (All-head (λ (x : A). notices x ≡ []) row rows none)
    ∙ none_planned_flat notices rows (All-tail (λ (x : A). notices x ≡ []) row rows none)

pub touched_alone_flat : {A B : Type 0} (notices : A → List B) (touched : A → Bool) (rows : List A)
    → All (λ (row : A). touched row ≡ false → notices row ≡ []) rows → flat_map notices rows ≡ flat_map notices (filter touched rows)
touched_alone_flat notices touched [] quiet = refl
touched_alone_flat {A = A} {B = B} notices touched (row ∷ rows) quiet =
    by (touched row) (All-head (λ (x : A). touched x ≡ false → notices x ≡ []) row rows quiet)
    (touched_alone_flat notices touched rows (All-tail (λ (x : A). touched x ≡ false → notices x ≡ []) row rows quiet))
  where
    by : (is : Bool) → (is ≡ false → notices row ≡ []) → flat_map notices rows ≡ flat_map notices (filter touched rows)
        → notices row ++ flat_map notices rows ≡ flat_map notices (cond is (row ∷ filter touched rows) (filter touched rows))
    by true none rest = ap (λ (more : List B). notices row ++ more) rest
    by false none rest = ap (λ (first : List B). first ++ flat_map notices rows) (none refl) ∙ rest

-- with one row more, put last
pub one_planned : {A B : Type 0} (notice : A → Option B) (rows : List A) (new : A) → All (λ (row : A). notice row ≡ None) rows
    → filter_map notice (rows ++ new ∷ []) ≡ cons_option (notice new) []
one_planned {A = A} {B = B} notice rows new none =
    filter_map-append notice rows (new ∷ [])
    ∙ ap (λ (before : List B). before ++ cons_option (notice new) []) (none_planned notice rows none)

-- ---- what holds of all rows

-- the row that is found
pub found_passes : {A : Type 0} (test : A → Bool) (rows : List A) (row : A) → find test rows ≡ Some row → test row ≡ true
found_passes test [] row is = absurd cc
found_passes test (first ∷ rows) row is = by (test first) refl is (λ later. found_passes test rows row later)
  where
    by : (passes : Bool) → test first ≡ passes → cond passes (Some first) (find test rows) ≡ Some row → (find test rows ≡ Some row → test row ≡ true) → test row ≡ true
    by true e is rest = let same : first ≡ row = cc in ap test (sym same) ∙ e
    by false e is rest = rest is

pub found_holds : {A : Type 0} (P : A → Type 0) (test : A → Bool) (rows : List A) (row : A) → All P rows → find test rows ≡ Some row → P row
found_holds P test [] row all is = absurd cc
found_holds {A = A} P test (first ∷ rows) row all is = by (test first) is (λ later. found_holds P test rows row (All-tail P first rows all) later)
  where
    by : (passes : Bool) → cond passes (Some first) (find test rows) ≡ Some row → (find test rows ≡ Some row → P row) → P row
    by true e rest = let same : first ≡ row = cc in subst P same (All-head P first rows all)
    by false e rest = rest e

-- rows of which one was changed
pub all_with_changed : {A : Type 0} (P : A → Type 0) (test : A → Bool) (change : A → A) (rows : List A) → All P rows
    → ((row : A) → find test rows ≡ Some row → P row → P (change row)) → All P (change_first test change rows)
all_with_changed P test change [] all changed = all
all_with_changed {A = A} P test change (row ∷ rows) all changed =
    by (test row) refl (λ later. all_with_changed P test change rows (All-tail P row rows all) later)
  where
    by : (is : Bool) → test row ≡ is → (((x : A) → find test rows ≡ Some x → P x → P (change x)) → All P (change_first test change rows))
        → All P (cond is (change row ∷ rows) (row ∷ change_first test change rows))
    by true is rest = All-cons P (change row) rows (changed row (rw is refl) (All-head P row rows all)) (All-tail P row rows all)
    by false is rest =
        All-cons P row (change_first test change rows) (All-head P row rows all) (rest (λ x found. changed x (rw is found)))

-- rows without one of them
pub all_without : {A : Type 0} (P : A → Type 0) (test : A → Bool) (rows : List A) → All P rows → All P (remove_first test rows)
all_without P test [] all = all
all_without P test (row ∷ rows) all =
    let rest = all_without P test rows (All-tail P row rows all) in
    elim (test row) as (λ t. All P (cond t rows (row ∷ remove_first test rows)))
    [ true ↦ All-tail P row rows all | false ↦ All-cons P row (remove_first test rows) (All-head P row rows all) rest ]
