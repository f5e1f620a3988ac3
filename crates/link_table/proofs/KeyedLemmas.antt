-- Rows under their keys, and the list of those rows.
use Rattle.std.proofs.Common.{◌≡◌, List, [], ◌∷◌, ◌++◌, Bool, true, false, not, cond, ◌||◌, Some, None, is_some, map, refl, sym, ap, subst, ◌∙◌}
use Rattle.std.specs.List.{find, filter, list_any}
use Rattle.std.specs.Option.{option_map}
use Rattle.std.proofs.lemmas.List.{map-append}
use Rattle.rows.specs.Rows.{change_first}
use Rattle.row_index.specs.declared.key.Key.{Key}
use Rattle.row_index.specs.Rows.{same_key, has_key, lacks_key, with_row, row_of, value_at, put_at, HasKeysApart}
use Rattle.row_index.proofs.Keys.{same_key_is_same, same_key_itself}
use Rattle.link_table.proofs.ValueLemmas.{none_left_out}
use Rattle.link_table.specs.Keyed.{entry_by, is_at, is_not_at}

module _ {A : Type 0} where
  -- whether any passes, by what is found
  pub found_none : (p : A → Bool) (rows : List A) → list_any p rows ≡ false → find p rows ≡ None
  found_none p [] e = refl
  found_none p (row ∷ rows) e =
      elim (p row) as (λ t. (t || list_any p rows) ≡ false → cond t (Some row) (find p rows) ≡ None)
      [ true ↦ λ h. cc | false ↦ λ h. found_none p rows h ] e

  -- the first that passes does pass
  pub found_passes : (p : A → Bool) (rows : List A) (row : A) → find p rows ≡ Some row → p row ≡ true
  found_passes p [] row e = cc
  found_passes p (first ∷ rows) row e =
      elim (p first) as (λ t. p first ≡ t → cond t (Some first) (find p rows) ≡ Some row → p row ≡ true)
      [ true ↦ λ h found. let is : first ≡ row = cc in ap p (sym is) ∙ h | false ↦ λ h found. found_passes p rows row found ] refl e

  -- whether any is found
  pub is_some_found : (p : A → Bool) (rows : List A) → is_some (find p rows) ≡ list_any p rows
  is_some_found p [] = refl
  is_some_found p (row ∷ rows) = elim (p row) as (λ t. is_some (cond t (Some row) (find p rows)) ≡ (t || list_any p rows)) [ true ↦ refl | false ↦ is_some_found p rows ]

  none_kept : (p : A → Bool) (rows : List A) → find p rows ≡ None → filter p rows ≡ []
  none_kept p [] e = refl
  none_kept p (row ∷ rows) e =
      elim (p row) as (λ t. cond t (Some row) (find p rows) ≡ None → cond t (row ∷ filter p rows) (filter p rows) ≡ [])
      [ true ↦ λ h. cc | false ↦ λ h. none_kept p rows h ] e

module _ {A : Type 0} (key_of : A → Key) where
  rows_of_entries : (rows : List A) → map row_of (map (entry_by key_of) rows) ≡ rows
  rows_of_entries [] = refl
  rows_of_entries (row ∷ rows) = ap (λ xs. row ∷ xs) (rows_of_entries rows)

  -- entries that are those of these rows, are keyed, and hold these rows
  pub keyed_by : (entries : List (Key × A)) (rows : List A) → entries ≡ map (entry_by key_of) rows → (entries ≡ map (entry_by key_of) (map row_of entries)) × (map row_of entries ≡ rows)
  keyed_by entries rows e =
      let held : map row_of entries ≡ rows = ap (map row_of) e ∙ rows_of_entries rows in
      (e ∙ ap (map (entry_by key_of)) (sym held), held)

  found_entry : (k : Key) (rows : List A) → value_at k (map (entry_by key_of) rows) ≡ find (is_at key_of k) rows
  found_entry k [] = refl
  found_entry k (row ∷ rows) =
      elim (is_at key_of k row) as (λ t. option_map row_of (cond t (Some (entry_by key_of row)) (find (has_key k) (map (entry_by key_of) rows))) ≡ cond t (Some row) (find (is_at key_of k) rows))
      [ true ↦ refl | false ↦ found_entry k rows ]

  -- the row under a key is the one that says it
  pub row_at : (k : Key) (entries : List (Key × A)) → entries ≡ map (entry_by key_of) (map row_of entries) → value_at k entries ≡ find (is_at key_of k) (map row_of entries)
  row_at k entries keyed = ap (value_at k) keyed ∙ found_entry k (map row_of entries)

  -- one more row
  pub keyed_with_more : (entries : List (Key × A)) (row : A) → entries ≡ map (entry_by key_of) (map row_of entries) → entries ++ (key_of row, row) ∷ [] ≡ map (entry_by key_of) (map row_of entries ++ row ∷ [])
  keyed_with_more entries row keyed = ap (λ xs. xs ++ (key_of row, row) ∷ []) keyed ∙ sym (map-append (entry_by key_of) (map row_of entries) (row ∷ []))

  fewer_entries : (k : Key) (rows : List A) → filter (lacks_key k) (map (entry_by key_of) rows) ≡ map (entry_by key_of) (filter (is_not_at key_of k) rows)
  fewer_entries k [] = refl
  fewer_entries k (row ∷ rows) =
      elim (is_at key_of k row) as (λ t. cond (not t) (entry_by key_of row ∷ filter (lacks_key k) (map (entry_by key_of) rows)) (filter (lacks_key k) (map (entry_by key_of) rows)) ≡ map (entry_by key_of) (cond (not t) (row ∷ filter (is_not_at key_of k) rows) (filter (is_not_at key_of k) rows)))
      [ true ↦ fewer_entries k rows | false ↦ ap (λ xs. entry_by key_of row ∷ xs) (fewer_entries k rows) ]

  -- without the row under a key
  pub keyed_with_fewer : (k : Key) (entries : List (Key × A)) → entries ≡ map (entry_by key_of) (map row_of entries) → filter (lacks_key k) entries ≡ map (entry_by key_of) (filter (is_not_at key_of k) (map row_of entries))
  keyed_with_fewer k entries keyed = ap (filter (lacks_key k)) keyed ∙ fewer_entries k (map row_of entries)

  changed_entries : (k : Key) (f : A → A) → ((row : A) → key_of (f row) ≡ key_of row) → (row : A) (rows : List A) → find (is_at key_of k) rows ≡ Some row → put_at k (map (entry_by key_of) rows) (f row) ≡ map (entry_by key_of) (change_first (is_at key_of k) f rows)
  changed_entries k f keeps row [] e = cc
  changed_entries k f keeps row (first ∷ rows) e =
      elim (is_at key_of k first) as (λ t. cond t (Some first) (find (is_at key_of k) rows) ≡ Some row → cond t (with_row (f row) (entry_by key_of first) ∷ map (entry_by key_of) rows) (entry_by key_of first ∷ put_at k (map (entry_by key_of) rows) (f row)) ≡ map (entry_by key_of) (cond t (f first ∷ rows) (first ∷ change_first (is_at key_of k) f rows))) [
        | true ↦ λ h.
            let here : first ≡ row = cc in
            let entry : (key_of first, f row) ≡ entry_by key_of (f first) = λ i. (sym (keeps first) i, f (sym here i)) in
            ap (λ x. x ∷ map (entry_by key_of) rows) entry
        | false ↦ λ h. ap (λ xs. entry_by key_of first ∷ xs) (changed_entries k f keeps row rows h)
      ] e

  -- with the row under a key changed
  pub keyed_with_put : (k : Key) (f : A → A) → ((row : A) → key_of (f row) ≡ key_of row) → (row : A) (entries : List (Key × A)) → entries ≡ map (entry_by key_of) (map row_of entries) → value_at k entries ≡ Some row → put_at k entries (f row) ≡ map (entry_by key_of) (change_first (is_at key_of k) f (map row_of entries))
  keyed_with_put k f keeps row entries keyed there =
      ap (λ xs. put_at k xs (f row)) keyed ∙ changed_entries k f keeps row (map row_of entries) (sym (row_at k entries keyed) ∙ there)

  later_at : (k : Key) (row : A) (rows : List A) (found : A) → value_at k (map (entry_by key_of) rows) ≡ Some found → value_at (key_of row) (map (entry_by key_of) rows) ≡ None → value_at k (map (entry_by key_of) (row ∷ rows)) ≡ Some found
  later_at k row rows found there none =
      elim (same_key (key_of row) k) as (λ t. same_key (key_of row) k ≡ t → option_map row_of (cond t (Some (entry_by key_of row)) (find (has_key k) (map (entry_by key_of) rows))) ≡ Some found) [
        | true ↦ λ h. let clash : None ≡ Some found = sym none ∙ ap (λ x. value_at x (map (entry_by key_of) rows)) (same_key_is_same (key_of row) k h) ∙ there in cc
        | false ↦ λ h. there
      ] refl

  found_at : (p : A → Bool) (rows : List A) (row : A) → HasKeysApart (map (entry_by key_of) rows) → find p rows ≡ Some row → (value_at (key_of row) (map (entry_by key_of) rows) ≡ Some row) × (p row ≡ true)
  found_at p [] row apart e = cc
  found_at p (first ∷ rows) row apart e =
      elim (p first) as (λ t. p first ≡ t → cond t (Some first) (find p rows) ≡ Some row → (value_at (key_of row) (map (entry_by key_of) (first ∷ rows)) ≡ Some row) × (p row ≡ true)) [
        | true ↦ λ h found.
            let here : first ≡ row = cc in
            (rw (← here) (rw (same_key_itself (key_of first)) refl), ap p (sym here) ∙ h)
        | false ↦ λ h found.
            let later = found_at p rows row apart.1 found in
            (later_at (key_of row) first rows row later.0 apart.0, later.1)
      ] refl e

  -- a row that is found stands under its key
  pub found_at_its_key : (p : A → Bool) (entries : List (Key × A)) (row : A) → entries ≡ map (entry_by key_of) (map row_of entries) → HasKeysApart entries → find p (map row_of entries) ≡ Some row → (value_at (key_of row) entries ≡ Some row) × (p row ≡ true)
  found_at_its_key p entries row keyed apart e =
      let P : List (Key × A) → Type 0 = λ xs. (value_at (key_of row) xs ≡ Some row) × (p row ≡ true) in
      subst P (sym keyed) (found_at p (map row_of entries) row (subst HasKeysApart keyed apart) e)

  none_passes : (p : A → Bool) (k : Key) (rows : List A) (row : A) → find p rows ≡ None → value_at k (map (entry_by key_of) rows) ≡ Some row → p row ≡ false
  none_passes p k [] row none there = cc
  none_passes p k (first ∷ rows) row none there =
      elim (p first) as (λ t. p first ≡ t → cond t (Some first) (find p rows) ≡ None → p row ≡ false) [
        | true ↦ λ h e. cc
        | false ↦ λ h e.
            elim (same_key (key_of first) k) as (λ t. option_map row_of (cond t (Some (entry_by key_of first)) (find (has_key k) (map (entry_by key_of) rows))) ≡ Some row → p row ≡ false)
            [ true ↦ λ here. let is : first ≡ row = cc in ap p (sym is) ∙ h | false ↦ λ later. none_passes p k rows row e later ] there
      ] refl none

  -- where none is found, none that stands passes
  pub none_at_a_key : (p : A → Bool) (k : Key) (entries : List (Key × A)) (row : A) → entries ≡ map (entry_by key_of) (map row_of entries) → find p (map row_of entries) ≡ None → value_at k entries ≡ Some row → p row ≡ false
  none_at_a_key p k entries row keyed none there = none_passes p k (map row_of entries) row none (ap (value_at k) (sym keyed) ∙ there)

  -- a row stands under a key where one says it
  pub some_row_at : (k : Key) (entries : List (Key × A)) → entries ≡ map (entry_by key_of) (map row_of entries) → is_some (value_at k entries) ≡ list_any (is_at key_of k) (map row_of entries)
  some_row_at k entries keyed = ap is_some (row_at k entries keyed) ∙ is_some_found (is_at key_of k) (map row_of entries)

  alone : (k : Key) (rows : List A) (row : A) → HasKeysApart (map (entry_by key_of) rows) → find (is_at key_of k) rows ≡ Some row → filter (is_at key_of k) rows ≡ row ∷ []
  alone k [] row apart e = cc
  alone k (first ∷ rows) row apart e =
      elim (is_at key_of k first) as (λ t. is_at key_of k first ≡ t → cond t (Some first) (find (is_at key_of k) rows) ≡ Some row → cond t (first ∷ filter (is_at key_of k) rows) (filter (is_at key_of k) rows) ≡ row ∷ []) [
        | true ↦ λ h found.
            let here : first ≡ row = cc in
            let none : value_at k (map (entry_by key_of) rows) ≡ None = ap (λ x. value_at x (map (entry_by key_of) rows)) (sym (same_key_is_same (key_of first) k h)) ∙ apart.0 in
            (λ i. here i ∷ none_kept (is_at key_of k) rows (sym (found_entry k rows) ∙ none) i)
        | false ↦ λ h found. alone k rows row apart.1 found
      ] refl e

  -- What holds of rows that stand under their keys.
  module _ (entries : List (Key × A)) (keyed : entries ≡ map (entry_by key_of) (map row_of entries)) where
    -- a row that stands under a key is there
    pub there_at : (k : Key) (row : A) → value_at k entries ≡ Some row → list_any (is_at key_of k) (map row_of entries) ≡ true
    there_at k row there = sym (some_row_at k entries keyed) ∙ ap is_some there

    -- and where it fails a test, none under that key passes
    pub fails_at : (p : A → Bool) (k : Key) (row : A) → HasKeysApart entries → value_at k entries ≡ Some row → p row ≡ false → list_any p (filter (is_at key_of k) (map row_of entries)) ≡ false
    fails_at p k row apart there fails =
        ap (list_any p) (alone k (map row_of entries) row (subst HasKeysApart keyed apart) (sym (row_at k entries keyed) ∙ there)) ∙ ap (λ t. t || false) fails

    -- no row stands under a key that is new
    pub new_key : (k : Key) → list_any (is_at key_of k) (map row_of entries) ≡ false → value_at k entries ≡ None
    new_key k new = row_at k entries keyed ∙ found_none (is_at key_of k) (map row_of entries) new

    -- the rows, with one more
    pub rows_with_more : (row : A) → map row_of (entries ++ (key_of row, row) ∷ []) ≡ map row_of entries ++ row ∷ []
    rows_with_more row = (keyed_by _ _ (keyed_with_more entries row keyed)).1

    -- without the one under a key
    pub rows_with_fewer : (k : Key) → map row_of (filter (lacks_key k) entries) ≡ filter (is_not_at key_of k) (map row_of entries)
    rows_with_fewer k = (keyed_by _ _ (keyed_with_fewer k entries keyed)).1

    pub rows_without_none : (k : Key) → value_at k entries ≡ None → map row_of entries ≡ filter (is_not_at key_of k) (map row_of entries)
    rows_without_none k none = sym (none_left_out (is_at key_of k) (map row_of entries) (sym (row_at k entries keyed) ∙ none))
