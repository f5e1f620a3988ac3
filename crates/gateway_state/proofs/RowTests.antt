-- Tests over rows.
use Rattle.std.proofs.Common.{◌≡◌, List, [], ◌∷◌, Bool, true, false, cond, ◌||◌, ◌&&◌, Some, refl, sym, ap, subst, ◌∙◌}
use Rattle.std.specs.Prelude.{filter, is_some}
use Rattle.std.specs.List.{All, find, list_all, list_any}
use Rattle.std.proofs.lemmas.Bool.{and_from, and_parts, or_from, or_parts, true≢false}
use Rattle.std.proofs.lemmas.List.Elements.{All-head, All-tail}
use Rattle.rows.specs.Rows.{change_first, remove_first}

pub all_weaker : {A : Type 0} (test other : A → Bool) (rows : List A) → ((row : A) → test row ≡ true → other row ≡ true) → list_all test rows ≡ true → list_all other rows ≡ true
all_weaker test other [] weaker all = refl
all_weaker test other (row ∷ rows) weaker all =
    let parts = and_parts (test row) (list_all test rows) all in
    and_from (other row) (list_all other rows) (weaker row parts.0) (all_weaker test other rows weaker parts.1)

-- what each row that stays passes once it passed a test before
pub all_left : {A : Type 0} (test other kept : A → Bool) (rows : List A) → ((row : A) → kept row ≡ true → test row ≡ true → other row ≡ true)
    → list_all test rows ≡ true → list_all other (filter kept rows) ≡ true
all_left test other kept [] both all = refl
all_left test other kept (row ∷ rows) both all =
    let parts = and_parts (test row) (list_all test rows) all in
    by (kept row) refl parts.0 (all_left test other kept rows both parts.1)
  where
    by : (is : Bool) → kept row ≡ is → test row ≡ true → list_all other (filter kept rows) ≡ true → list_all other (cond is (row ∷ filter kept rows) (filter kept rows)) ≡ true
    by true e passed rest = and_from (other row) (list_all other (filter kept rows)) (both row e passed) rest
    by false e passed rest = rest

-- what every row has, the one that is found has
pub found_passes : {A : Type 0} (P : A → Type 0) (test : A → Bool) (rows : List A) (row : A) → All P rows → find test rows ≡ Some row → P row
found_passes P test [] row all is = absurd cc
found_passes {A = A} P test (first ∷ rows) row all is = by (test first) is (λ later. found_passes P test rows row (All-tail P first rows all) later)
  where
    by : (passes : Bool) → cond passes (Some first) (find test rows) ≡ Some row → (find test rows ≡ Some row → P row) → P row
    by true e rest = let same : first ≡ row = cc in subst P same (All-head P first rows all)
    by false e rest = rest e

pub all_removed : {A : Type 0} (test other : A → Bool) (rows : List A) → list_all test rows ≡ true → list_all test (remove_first other rows) ≡ true
all_removed test other [] all = all
all_removed test other (row ∷ rows) all =
    let parts = and_parts (test row) (list_all test rows) all in
    elim (other row) as (λ t. list_all test (cond t rows (row ∷ remove_first other rows)) ≡ true)
    [ true ↦ parts.1 | false ↦ and_from (test row) (list_all test (remove_first other rows)) parts.0 (all_removed test other rows parts.1) ]

-- a change that the test doesn't see
pub any_changed : {A : Type 0} (test other : A → Bool) (change : A → A) (rows : List A) → ((row : A) → test (change row) ≡ test row) → list_any test (change_first other change rows) ≡ list_any test rows
any_changed test other change [] unseen = refl
any_changed test other change (row ∷ rows) unseen =
    elim (other row) as (λ t. list_any test (cond t (change row ∷ rows) (row ∷ change_first other change rows)) ≡ (test row || list_any test rows)) [
      | true ↦ ap (λ (t : Bool). t || list_any test rows) (unseen row)
      | false ↦ ap (λ (t : Bool). test row || t) (any_changed test other change rows unseen)
    ]

-- rows that pass one test stay where those that pass another do
pub any_filtered : {A : Type 0} (test stays : A → Bool) (rows : List A) → ((row : A) → test row ≡ true → stays row ≡ true) → list_any test rows ≡ true → list_any test (filter stays rows) ≡ true
any_filtered test stays [] both any = any
any_filtered test stays (row ∷ rows) both any = by (test row) (stays row) refl refl any (λ there. any_filtered test stays rows both there)
  where
    by : (passes kept : Bool) → test row ≡ passes → stays row ≡ kept → (passes || list_any test rows) ≡ true → (list_any test rows ≡ true → list_any test (filter stays rows) ≡ true)
        → list_any test (cond kept (row ∷ filter stays rows) (filter stays rows)) ≡ true
    by true true is_passing is_kept there rest = rw is_passing refl
    by true false is_passing is_kept there rest = absurd (true≢false (sym (both row is_passing) ∙ is_kept))
    by false true is_passing is_kept there rest = rw is_passing (rest there)
    by false false is_passing is_kept there rest = rest there

pub all_filtered : {A : Type 0} (test other : A → Bool) (rows : List A) → list_all test rows ≡ true → list_all test (filter other rows) ≡ true
all_filtered test other [] all = all
all_filtered test other (row ∷ rows) all =
    let parts = and_parts (test row) (list_all test rows) all in
    let rest = all_filtered test other rows parts.1 in
    elim (other row) as (λ t. list_all test (cond t (row ∷ filter other rows) (filter other rows)) ≡ true)
    [ true ↦ and_from (test row) (list_all test (filter other rows)) parts.0 rest | false ↦ rest ]

pub all_changed : {A : Type 0} (test other : A → Bool) (change : A → A) (rows : List A) → ((row : A) → test (change row) ≡ test row) → list_all test (change_first other change rows) ≡ list_all test rows
all_changed test other change [] unseen = refl
all_changed test other change (row ∷ rows) unseen =
    elim (other row) as (λ t. list_all test (cond t (change row ∷ rows) (row ∷ change_first other change rows)) ≡ (test row && list_all test rows)) [
      | true ↦ ap (λ (t : Bool). t && list_all test rows) (unseen row)
      | false ↦ ap (λ (t : Bool). test row && t) (all_changed test other change rows unseen)
    ]

-- what isn't found is nowhere
pub none_found : {A : Type 0} (test : A → Bool) (rows : List A) → is_some (find test rows) ≡ false → list_any test rows ≡ false
none_found test [] none = refl
none_found test (row ∷ rows) none =
    elim (test row) as (λ t. is_some (cond t (Some row) (find test rows)) ≡ false → (t || list_any test rows) ≡ false)
    [ true ↦ λ h. cc | false ↦ λ h. none_found test rows h ] none

-- where every row passes a test that excludes another, no row passes the other
pub none_passes : {A : Type 0} (test other : A → Bool) (rows : List A) → ((row : A) → test row ≡ true → other row ≡ false) → list_all test rows ≡ true → list_any other rows ≡ false
none_passes test other [] excluded all = refl
none_passes test other (row ∷ rows) excluded all =
    let parts = and_parts (test row) (list_all test rows) all in
    rw (excluded row parts.0) (none_passes test other rows excluded parts.1)

-- what is found is found among the rows that stay, where all that pass the test do
pub found_left : {A : Type 0} (test stays : A → Bool) (rows : List A) → ((row : A) → test row ≡ true → stays row ≡ true) → find test (filter stays rows) ≡ find test rows
found_left test stays [] both = refl
found_left test stays (row ∷ rows) both = by (test row) (stays row) refl refl (found_left test stays rows both)
  where
    by : (passes kept : Bool) → test row ≡ passes → stays row ≡ kept → find test (filter stays rows) ≡ find test rows
        → find test (cond kept (row ∷ filter stays rows) (filter stays rows)) ≡ cond passes (Some row) (find test rows)
    by true true is is_kept rest = rw is refl
    by true false is is_kept rest = absurd (true≢false (sym (both row is) ∙ is_kept))
    by false true is is_kept rest = rw is rest
    by false false is is_kept rest = rest

-- where none passes, none passes what lets fewer through
pub none_weaker : {A : Type 0} (test other : A → Bool) (rows : List A) → ((row : A) → test row ≡ false → other row ≡ false) → list_any test rows ≡ false → list_any other rows ≡ false
none_weaker test other [] fewer none = refl
none_weaker test other (row ∷ rows) fewer none =
    let parts = or_parts (test row) (list_any test rows) none in
    or_from (other row) (list_any other rows) (fewer row parts.0) (none_weaker test other rows fewer parts.1)

-- of fewer rows none does
pub none_filtered : {A : Type 0} (test other : A → Bool) (rows : List A) → list_any test rows ≡ false → list_any test (filter other rows) ≡ false
none_filtered test other [] none = refl
none_filtered test other (row ∷ rows) none =
    let parts = or_parts (test row) (list_any test rows) none in
    let rest = none_filtered test other rows parts.1 in
    elim (other row) as (λ t. list_any test (cond t (row ∷ filter other rows) (filter other rows)) ≡ false)
    [ true ↦ or_from (test row) (list_any test (filter other rows)) parts.0 rest | false ↦ rest ]
