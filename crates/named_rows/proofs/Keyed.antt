-- Rows under keys: a look-up by a key is a look-up among the rows.
use Rattle.std.proofs.Common.{subst, ◌≡◌, ℕ, List, [], ◌∷◌, ◌++◌, Bool, true, false, cond, not, ◌==◌, Some, None, Result, Ok, Err, OnOk, OnErr, map, length, refl, sym, ap, ◌∙◌}
use Rattle.std.specs.List.{filter, find, count_by, list_any}
use Rattle.std.specs.Option.{option_map}
use Rattle.std.proofs.lemmas.List.{length-map}
use Rattle.std.proofs.lemmas.List.Sums.{length-filter}
use Rattle.rows.specs.Rows.{change_first, remove_first}
use Rattle.row_index.specs.declared.key.Key.{Key}
use Rattle.row_index.specs.Rows.{same_key, row_of, has_key, has_one_of, lacks_key, is_owned_by, value_at, put_at, HasKeysApart}
use Rattle.row_index.proofs.Keys.{same_key_is_same, same_key_itself, unmapped}
use Rattle.row_index.proofs.Owned.{undone}
use Rattle.named_rows.specs.Indexes.{is_at, is_one_of, keyed, changed_by, IsApart}
use Rattle.named_rows.proofs.Lists.{none_dropped, unfound_is_absent, absent_is_unfound}

-- P holds of each row
abbrev pub Each : {V : Type 0} → (V → Type 0) → List V → Type 0
Each P [] = Unit {0}
Each P (row ∷ rows) = P row × Each P rows

-- what holds of each row holds of the one that is found
pub found_each : {V : Type 0} (P : V → Type 0) (p : V → Bool) (rows : List V) (row : V) → Each P rows → find p rows ≡ Some row → P row
found_each P p [] row each e = cc
found_each P p (first ∷ rows) row each e =
    elim (p first) as (λ t. cond t (Some first) (find p rows) ≡ Some row → P row)
    [ true ↦ λ h. let same : first ≡ row = cc in subst P same each.0 | false ↦ λ h. found_each P p rows row each.1 h ] e

-- a value written under a key is the row that was there changed
pub put_is_change : {V : Type 0} (k : Key) (f : V → V) (entries : List (Key × V)) (row : V) → value_at k entries ≡ Some row → put_at k entries (f row) ≡ change_first (has_key k) (changed_by f) entries
put_is_change k f [] row e = refl
put_is_change k f (entry ∷ entries) row e =
    elim (has_key k entry) as (λ t. option_map row_of (cond t (Some entry) (find (has_key k) entries)) ≡ Some row → cond t ((entry.0, f row) ∷ entries) (entry ∷ put_at k entries (f row)) ≡ cond t ((entry.0, f entry.1) ∷ entries) (entry ∷ change_first (has_key k) (changed_by f) entries))
    [ true ↦ λ h. let here : entry.1 ≡ row = cc in ap (λ v. (entry.0, f v) ∷ entries) (sym here) | false ↦ λ h. ap (λ rest. entry ∷ rest) (put_is_change k f entries row h) ] e

find_last : {A : Type 0} (p : A → Bool) (xs : List A) (x : A) → find p xs ≡ None → p x ≡ true → find p (xs ++ x ∷ []) ≡ Some x
find_last p [] x none last = rw last refl
find_last p (y ∷ ys) x none last =
    elim (p y) as (λ t. cond t (Some y) (find p ys) ≡ None → cond t (Some y) (find p (ys ++ x ∷ [])) ≡ Some x)
    [ true ↦ λ h. cc | false ↦ λ h. find_last p ys x h last ] none

module _ {V : Type 0} (key : V → Key) where
  -- the rows come back
  pub rows_of_keyed : (rows : List V) → map row_of (keyed key rows) ≡ rows
  rows_of_keyed [] = refl
  rows_of_keyed (row ∷ rows) = ap (λ rest. row ∷ rest) (rows_of_keyed rows)

  -- the rows of entries that are these under their keys
  pub rows_of : (entries : List (Key × V)) (rows : List V) → entries ≡ keyed key rows → map row_of entries ≡ rows
  rows_of entries rows e = ap (map row_of) e ∙ rows_of_keyed rows

  -- such entries are those of their own rows
  pub keyed_again : (entries : List (Key × V)) (rows : List V) → entries ≡ keyed key rows → entries ≡ keyed key (map row_of entries)
  keyed_again entries rows e = e ∙ ap (keyed key) (sym (rows_of entries rows e))

  -- a look-up
  pub value_at_keyed : (k : Key) (rows : List V) → value_at k (keyed key rows) ≡ find (λ row. same_key (key row) k) rows
  value_at_keyed k [] = refl
  value_at_keyed k (row ∷ rows) =
      elim (same_key (key row) k) as (λ t. option_map row_of (cond t (Some (key row, row)) (find (has_key k) (keyed key rows))) ≡ cond t (Some row) (find (λ r. same_key (key r) k) rows))
      [ true ↦ refl | false ↦ value_at_keyed k rows ]

  -- one row more
  pub add_keyed : (rows : List V) (row : V) → keyed key rows ++ (key row, row) ∷ [] ≡ keyed key (rows ++ row ∷ [])
  add_keyed [] row = refl
  add_keyed (first ∷ rows) row = ap (λ rest. (key first, first) ∷ rest) (add_keyed rows row)

  -- a key removed
  pub remove_keyed : (k : Key) (rows : List V) → filter (lacks_key k) (keyed key rows) ≡ keyed key (filter (λ row. not (same_key (key row) k)) rows)
  remove_keyed k [] = refl
  remove_keyed k (row ∷ rows) =
      elim (same_key (key row) k) as (λ t. cond (not t) ((key row, row) ∷ filter (lacks_key k) (keyed key rows)) (filter (lacks_key k) (keyed key rows)) ≡ keyed key (cond (not t) (row ∷ filter (λ r. not (same_key (key r) k)) rows) (filter (λ r. not (same_key (key r) k)) rows)))
      [ true ↦ remove_keyed k rows | false ↦ ap (λ rest. (key row, row) ∷ rest) (remove_keyed k rows) ]

  -- the rows of an owner
  pub owned_keyed : (owner : ℕ) (rows : List V) → map row_of (filter (is_owned_by owner) (keyed key rows)) ≡ filter (λ row. (key row).owner == owner) rows
  owned_keyed owner [] = refl
  owned_keyed owner (row ∷ rows) =
      elim ((key row).owner == owner) as (λ t. map row_of (cond t ((key row, row) ∷ filter (is_owned_by owner) (keyed key rows)) (filter (is_owned_by owner) (keyed key rows))) ≡ cond t (row ∷ filter (λ r. (key r).owner == owner) rows) (filter (λ r. (key r).owner == owner) rows))
      [ true ↦ ap (λ rest. row ∷ rest) (owned_keyed owner rows) | false ↦ owned_keyed owner rows ]

  -- the rows of some keys
  pub some_keyed : (keys : List Key) (rows : List V) → map row_of (filter (has_one_of keys) (keyed key rows)) ≡ filter (is_one_of key keys) rows
  some_keyed keys [] = refl
  some_keyed keys (row ∷ rows) =
      elim (is_one_of key keys row) as (λ t. map row_of (cond t ((key row, row) ∷ filter (has_one_of keys) (keyed key rows)) (filter (has_one_of keys) (keyed key rows))) ≡ cond t (row ∷ filter (is_one_of key keys) rows) (filter (is_one_of key keys) rows))
      [ true ↦ ap (λ rest. row ∷ rest) (some_keyed keys rows) | false ↦ some_keyed keys rows ]

  -- how many they are
  pub count_keyed : (owner : ℕ) (rows : List V) → count_by (is_owned_by owner) (keyed key rows) ≡ count_by (λ row. (key row).owner == owner) rows
  count_keyed owner rows =
      sym (length-filter (is_owned_by owner) (keyed key rows))
      ∙ sym (length-map (filter (is_owned_by owner) (keyed key rows)) row_of)
      ∙ ap length (owned_keyed owner rows)
      ∙ length-filter (λ row. (key row).owner == owner) rows

  -- a row changed in what is no part of its key
  pub change_keyed : (k : Key) (f : V → V) → ((row : V) → key (f row) ≡ key row) → (rows : List V) → change_first (has_key k) (changed_by f) (keyed key rows) ≡ keyed key (change_first (λ r. same_key (key r) k) f rows)
  change_keyed k f kept [] = refl
  change_keyed k f kept (row ∷ rows) =
      elim (same_key (key row) k) as (λ t. cond t ((key row, f row) ∷ keyed key rows) ((key row, row) ∷ change_first (has_key k) (changed_by f) (keyed key rows)) ≡ keyed key (cond t (f row ∷ rows) (row ∷ change_first (λ r. same_key (key r) k) f rows)))
      [ true ↦ ap (λ j. (j, f row) ∷ keyed key rows) (sym (kept row)) | false ↦ ap (λ rest. (key row, row) ∷ rest) (change_keyed k f kept rows) ]

  -- a key that no row has is another one than that of a row which is found
  other_key : (k : Key) (rows : List V) (row : V) → find (λ r. same_key (key r) k) rows ≡ None → find (λ r. same_key (key r) (key row)) rows ≡ Some row → same_key k (key row) ≡ false
  other_key k rows row none found =
      elim (same_key k (key row)) as (λ t. same_key k (key row) ≡ t → t ≡ false)
      [ true ↦ λ e. let same = same_key_is_same k (key row) e in let wrong : find (λ r. same_key (key r) k) rows ≡ Some row = rw same found in cc | false ↦ λ _. refl ] refl

  later_found : (first : V) (rows some : List V) → find (λ r. same_key (key r) (key first)) rows ≡ None → Each (λ x. find (λ r. same_key (key r) (key x)) rows ≡ Some x) some → Each (λ x. find (λ r. same_key (key r) (key x)) (first ∷ rows) ≡ Some x) some
  later_found first rows [] none each = tt
  later_found first rows (x ∷ some) none each =
      (rw (other_key (key first) rows x none each.0) each.0, later_found first rows some none each.1)

  -- where keys are apart, each row is the one that its key finds
  pub each_is_found : (rows : List V) → IsApart key rows → Each (λ x. find (λ row. same_key (key row) (key x)) rows ≡ Some x) rows
  each_is_found [] apart = tt
  each_is_found (row ∷ rows) apart = (
    rw (same_key_itself (key row)) refl,
    later_found row rows rows (sym (value_at_keyed (key row) rows) ∙ apart.0) (each_is_found rows apart.1),
  )

  -- so is one that a test finds
  pub found_again : (p : V → Bool) (rows : List V) (row : V) → IsApart key rows → find p rows ≡ Some row → find (λ r. same_key (key r) (key row)) rows ≡ Some row
  found_again p rows row apart found = found_each (λ x. find (λ r. same_key (key r) (key x)) rows ≡ Some x) p rows row (each_is_found rows apart) found

  -- without its key the first row that passes is gone
  pub first_goes : (p : V → Bool) (rows : List V) (row : V) → IsApart key rows → find p rows ≡ Some row → filter (λ r. not (same_key (key r) (key row))) rows ≡ remove_first p rows
  first_goes p [] row apart e = refl
  first_goes p (first ∷ rows) row apart e =
      elim (p first) as (λ t. cond t (Some first) (find p rows) ≡ Some row → filter (λ r. not (same_key (key r) (key row))) (first ∷ rows) ≡ cond t rows (first ∷ remove_first p rows)) [
        | true ↦ λ h.
            let is : first ≡ row = cc in
            let here : same_key (key first) (key row) ≡ true = ap (λ r. same_key (key first) (key r)) (sym is) ∙ same_key_itself (key first) in
            let none : find (λ r. same_key (key r) (key row)) rows ≡ None = ap (λ x. find (λ r. same_key (key r) (key x)) rows) (sym is) ∙ sym (value_at_keyed (key first) rows) ∙ apart.0 in
            rw here (none_dropped (λ r. same_key (key r) (key row)) rows (unfound_is_absent (λ r. same_key (key r) (key row)) rows none))
        | false ↦ λ h.
            let other = other_key (key first) rows row (sym (value_at_keyed (key first) rows) ∙ apart.0) (found_again p rows row apart.1 h) in
            rw other (ap (λ rest. first ∷ rest) (first_goes p rows row apart.1 h))
      ] e

  -- where keys are apart, a test that fails for the row of a key keeps the same without this row
  pub fails_alone : (k : Key) (q : V → Bool) (rows : List V) (row : V) → IsApart key rows → find (λ r. same_key (key r) k) rows ≡ Some row → q row ≡ false → filter q (filter (λ r. not (same_key (key r) k)) rows) ≡ filter q rows
  fails_alone k q [] row apart e fails = refl
  fails_alone k q (first ∷ rows) row apart e fails =
      elim (same_key (key first) k) as (λ t. same_key (key first) k ≡ t → cond t (Some first) (find (λ r. same_key (key r) k) rows) ≡ Some row → filter q (cond (not t) (first ∷ filter (λ r. not (same_key (key r) k)) rows) (filter (λ r. not (same_key (key r) k)) rows)) ≡ filter q (first ∷ rows)) [
        | true ↦ λ here h.
            let same = same_key_is_same (key first) k here in
            let is : first ≡ row = cc in
            let none : find (λ r. same_key (key r) k) rows ≡ None = rw (← same) (sym (value_at_keyed (key first) rows) ∙ apart.0) in
            let out : q first ≡ false = ap q is ∙ fails in
            rw (none_dropped (λ r. same_key (key r) k) rows (unfound_is_absent (λ r. same_key (key r) k) rows none), out) refl
        | false ↦ λ _ h. ap (λ rest. cond (q first) (first ∷ rest) rest) (fails_alone k q rows row apart.1 h fails)
      ] refl e

  -- What holds of entries that are rows under their keys.
  module _ (entries : List (Key × V)) (under : entries ≡ keyed key (map row_of entries)) where
    -- a look-up finds the first row that has the key
    pub entry_found : (k : Key) → value_at k entries ≡ find (λ row. same_key (key row) k) (map row_of entries)
    entry_found k = ap (value_at k) under ∙ value_at_keyed k (map row_of entries)

    -- none where no row has it
    pub entry_absent : (k : Key) → list_any (λ row. same_key (key row) k) (map row_of entries) ≡ false → value_at k entries ≡ None
    entry_absent k absent = entry_found k ∙ absent_is_unfound (λ row. same_key (key row) k) (map row_of entries) absent

    -- nor where it is the key of a row that is new
    pub entry_new : (k : Key) (row : V) (rows : List V) → k ≡ key row → map row_of entries ≡ rows → list_any (is_at key (key row)) rows ≡ false → value_at k entries ≡ None
    entry_new k row rows is seen absent = rw is (entry_absent (key row) (ap (list_any (is_at key (key row))) seen ∙ absent))

    -- the entries of an owner are its rows
    pub entries_owned : (owner : ℕ) → map row_of (filter (is_owned_by owner) entries) ≡ filter (λ row. (key row).owner == owner) (map row_of entries)
    entries_owned owner = ap (λ es. map row_of (filter (is_owned_by owner) es)) under ∙ owned_keyed owner (map row_of entries)

    -- the entries of some keys are their rows
    pub entries_of : (keys : List Key) → map row_of (filter (has_one_of keys) entries) ≡ filter (is_one_of key keys) (map row_of entries)
    entries_of keys = ap (λ es. map row_of (filter (has_one_of keys) es)) under ∙ some_keyed keys (map row_of entries)

    pub entries_counted : (owner : ℕ) → count_by (is_owned_by owner) entries ≡ count_by (λ row. (key row).owner == owner) (map row_of entries)
    entries_counted owner = ap (count_by (is_owned_by owner)) under ∙ count_keyed owner (map row_of entries)

    -- keys that are apart are so of the rows
    pub rows_apart : HasKeysApart entries → IsApart key (map row_of entries)
    rows_apart apart = let P : List (Key × V) → Type 0 = λ es. HasKeysApart es in subst P under apart

    -- one more
    pub under_more : (row : V) (new : List (Key × V)) → new ≡ entries ++ (key row, row) ∷ [] → new ≡ keyed key (map row_of entries ++ row ∷ [])
    under_more row new is = is ∙ ap (λ es. es ++ (key row, row) ∷ []) under ∙ add_keyed (map row_of entries) row

    -- one removed
    pub under_less : (k : Key) (new : List (Key × V)) → new ≡ filter (lacks_key k) entries → new ≡ keyed key (filter (λ row. not (same_key (key row) k)) (map row_of entries))
    under_less k new is = is ∙ ap (filter (lacks_key k)) under ∙ remove_keyed k (map row_of entries)

    -- one changed
    pub under_change : (k : Key) (f : V → V) (new : List (Key × V)) → ((r : V) → key (f r) ≡ key r) → new ≡ change_first (has_key k) (changed_by f) entries → new ≡ keyed key (change_first (λ r. same_key (key r) k) f (map row_of entries))
    under_change k f new kept is = is ∙ ap (change_first (has_key k) (changed_by f)) under ∙ change_keyed k f kept (map row_of entries)

    -- the rows after each of these
    pub rows_more : (row : V) (new : List (Key × V)) → new ≡ entries ++ (key row, row) ∷ [] → map row_of new ≡ map row_of entries ++ row ∷ []
    rows_more row new is = rows_of new (map row_of entries ++ row ∷ []) (under_more row new is)

    pub rows_less : (k : Key) (new : List (Key × V)) → new ≡ filter (lacks_key k) entries → map row_of new ≡ filter (λ row. not (same_key (key row) k)) (map row_of entries)
    rows_less k new is = rows_of new (filter (λ row. not (same_key (key row) k)) (map row_of entries)) (under_less k new is)

    pub rows_changed : (k : Key) (f : V → V) (new : List (Key × V)) → ((r : V) → key (f r) ≡ key r) → new ≡ change_first (has_key k) (changed_by f) entries → map row_of new ≡ change_first (λ r. same_key (key r) k) f (map row_of entries)
    rows_changed k f new kept is = rows_of new (change_first (λ r. same_key (key r) k) f (map row_of entries)) (under_change k f new kept is)

    -- the entries are as before, where one was added and removed again
    pub undone_is : (k : Key) (row : V) (added after : List (Key × V)) → value_at k entries ≡ None → added ≡ entries ++ (k, row) ∷ [] → after ≡ filter (lacks_key k) added → after ≡ entries
    undone_is k row added after none is removed = removed ∙ ap (filter (lacks_key k)) is ∙ undone k row entries none

    -- what was added is found
    pub found_added : (k : Key) (row : V) (added : List (Key × V)) → value_at k entries ≡ None → added ≡ entries ++ (k, row) ∷ [] → value_at k added ≡ Some row
    found_added k row added none is =
        ap (value_at k) is ∙ ap (option_map row_of) (find_last (has_key k) entries (k, row) (unmapped row_of (find (has_key k) entries) none) (same_key_itself k))

    -- where a row was added, and taken out again unless it was listed
    module _ {E : Type 0} (listed : Result (Unit {0}) E) (k : Key) (row : V) (added after : List (Key × V)) (is_key_of : k ≡ key row) (none : value_at k entries ≡ None) (more : added ≡ entries ++ (k, row) ∷ []) (kept : OnOk listed (after ≡ added)) (gone : OnErr listed (after ≡ filter (lacks_key k) added)) where
      all_with : after ≡ added → after ≡ entries ++ (key row, row) ∷ []
      all_with same = same ∙ more ∙ ap (λ j. entries ++ (j, row) ∷ []) is_key_of

      pub under_kept : after ≡ keyed key (map row_of after)
      under_kept =
          elim listed as (λ r. OnOk r (after ≡ added) → OnErr r (after ≡ filter (lacks_key k) added) → after ≡ keyed key (map row_of after)) [
            | Ok _ ↦ λ same _. keyed_again after (map row_of entries ++ row ∷ []) (under_more row after (all_with same))
            | Err _ ↦ λ _ less. keyed_again after (map row_of entries) (undone_is k row added after none more less ∙ under)
          ] kept gone

      pub rows_kept : OnOk listed (map row_of after ≡ map row_of entries ++ row ∷ [])
      rows_kept =
          elim listed as (λ r. OnOk r (after ≡ added) → OnOk r (map row_of after ≡ map row_of entries ++ row ∷ []))
          [ Ok _ ↦ λ same. rows_more row after (all_with same) | Err _ ↦ λ same. same ] kept

      pub rows_undone : OnErr listed (map row_of after ≡ map row_of entries)
      rows_undone =
          elim listed as (λ r. OnErr r (after ≡ filter (lacks_key k) added) → OnErr r (map row_of after ≡ map row_of entries))
          [ Ok _ ↦ λ less. less | Err _ ↦ λ less. ap (map row_of) (undone_is k row added after none more less) ] gone
