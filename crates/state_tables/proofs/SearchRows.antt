-- Rows of searches, each under its key, and the lists of these keys, as a row comes, goes or changes.
use Rattle.std.proofs.Common.{◌≡◌, ℕ, List, [], ◌∷◌, ◌++◌, true, false, cond, not, ◌==◌, Option, Some, None, map, length, refl, sym, ap, subst, ◌∙◌}
use Rattle.std.specs.Prelude.{slice_get}
use Rattle.std.specs.List.{filter, find, list_any}
use Rattle.rows.specs.Rows.{change_first}
use Rattle.row_index.specs.declared.key.Key.{Key}
use Rattle.row_index.specs.Lists.{of}
use Rattle.row_index.specs.Rows.{has_key, lacks_key, is_owned_by, row_of, value_at, put_at, HasKeysApart}
use Rattle.row_index.proofs.Keys.{same_key_is_same}
use Rattle.named_rows.specs.Indexes.{IsUnderKeys, changed_by, is_at, is_not_at}
use Rattle.named_rows.proofs.Keyed.{entries_owned, entry_absent, entry_found, found_added, keyed_again, rows_apart, rows_changed, rows_less, rows_more, under_change, under_less, under_more, undone_is}
use Rattle.named_rows.proofs.Lists.{found_passes, none_dropped, unfound_is_absent}
use Rattle.state_tables.specs.declared.kept.KeptSearch.{KeptSearch}
use Rattle.state_tables.specs.declared.search_lists.SearchLists.{SearchLists}
use Rattle.state_tables.specs.Kept.{AreInLists, IsNew, KeepsListsOf, ListsFound, UnlistsFound, is_by_found, is_led, is_owned, is_sought, kept_key, key_in}
use Rattle.state_tables.proofs.KeptLists.{all_owned, any_listed, count_listed, first_listed, lists_changed, sought_by_keys}

-- a row that was written under a key goes with it
pub gone_alike : {V : Type 0} (k : Key) (entries : List (Key × V)) (value : V) → filter (lacks_key k) (put_at k entries value) ≡ filter (lacks_key k) entries
gone_alike k [] value = refl
gone_alike k (entry ∷ entries) value =
    elim (has_key k entry) as (λ t. has_key k entry ≡ t → filter (lacks_key k) (cond t ((entry.0, value) ∷ entries) (entry ∷ put_at k entries value)) ≡ filter (lacks_key k) (entry ∷ entries)) [
      | true ↦ λ h. rw h refl
      | false ↦ λ h. rw h (ap (λ rest. entry ∷ rest) (gone_alike k entries value))
    ] refl

-- What holds of rows that are each under its key, and listed by their texts.
module _ (entries : List (Key × KeptSearch)) (under : IsUnderKeys kept_key entries) (lists : SearchLists) (listed : AreInLists (map row_of entries) lists) where
  -- ONE MORE
  module _ (kept : KeptSearch) (k : Key) (is_key : k ≡ kept_key kept) (fresh : IsNew (kept_key kept) (map row_of entries)) where
    pub new_key : value_at k entries ≡ None
    new_key = entry_absent kept_key entries under k (ap (λ j. list_any (is_at kept_key j) (map row_of entries)) is_key ∙ fresh)

    module _ (added : List (Key × KeptSearch)) (more : added ≡ entries ++ (k, kept) ∷ []) where
      more_at : added ≡ entries ++ (kept_key kept, kept) ∷ []
      more_at = more ∙ ap (λ j. entries ++ (j, kept) ∷ []) is_key

      there : value_at k added ≡ Some kept
      there = found_added kept_key entries under k kept added new_key more

      pub with_more : map row_of added ≡ map row_of entries ++ kept ∷ []
      with_more = rows_more kept_key entries under kept added more_at

      pub under_with_more : IsUnderKeys kept_key added
      under_with_more = keyed_again kept_key added (map row_of entries ++ kept ∷ []) (under_more kept_key entries under kept added more_at)

      pub listed_with_one : (new : SearchLists) → ListsFound (value_at k added) lists new → AreInLists (map row_of added) new
      listed_with_one new ok =
          subst (λ rows. AreInLists rows new) (sym with_more)
          (subst (λ o. ListsFound o lists new) there ok (map row_of entries) fresh listed)

      -- and gone again
      module _ (after : List (Key × KeptSearch)) (removed : after ≡ filter (lacks_key k) added) where
        pub as_before : after ≡ entries
        as_before = undone_is kept_key entries under k kept added after new_key more removed

        pub under_as_before : IsUnderKeys kept_key after
        under_as_before = let P : List (Key × KeptSearch) → Type 0 = λ es. IsUnderKeys kept_key es in subst P (sym as_before) under

        pub listed_as_before : (new : SearchLists) → KeepsListsOf (value_at k added) lists new → AreInLists (map row_of after) new
        listed_as_before new err =
            subst (λ es. AreInLists (map row_of es) new) (sym as_before)
            (subst (λ o. KeepsListsOf o lists new) there err (map row_of entries) fresh listed)

  -- ONE LESS
  module _ (apart : HasKeysApart entries) (k : Key) (after : List (Key × KeptSearch)) (removed : after ≡ filter (lacks_key k) entries) where
    pub with_less : map row_of after ≡ filter (is_not_at kept_key k) (map row_of entries)
    with_less = rows_less kept_key entries under k after removed

    pub under_with_less : IsUnderKeys kept_key after
    under_with_less = keyed_again kept_key after (filter (is_not_at kept_key k) (map row_of entries)) (under_less kept_key entries under k after removed)

    unlisted_found : (o : Option KeptSearch) → find (is_at kept_key k) (map row_of entries) ≡ o → (new : SearchLists) → UnlistsFound o lists new → AreInLists (filter (is_not_at kept_key k) (map row_of entries)) new
    unlisted_found None none new same =
        let rows = none_dropped (is_at kept_key k) (map row_of entries) (unfound_is_absent (is_at kept_key k) (map row_of entries) none) in
        subst (λ l. AreInLists (filter (is_not_at kept_key k) (map row_of entries)) l) (sym same) (subst (λ rs. AreInLists rs lists) (sym rows) listed)
    unlisted_found (Some kept) found new unlists =
        let key : kept_key kept ≡ k = same_key_is_same (kept_key kept) k (found_passes (is_at kept_key k) (map row_of entries) kept found) in
        subst (λ j. AreInLists (filter (is_not_at kept_key j) (map row_of entries)) new) key
        (unlists (map row_of entries) (rows_apart kept_key entries under apart) (subst (λ j. find (is_at kept_key j) (map row_of entries) ≡ Some kept) (sym key) found) listed)

    pub listed_with_less : (new : SearchLists) → UnlistsFound (value_at k entries) lists new → AreInLists (map row_of after) new
    listed_with_less new unlists =
        subst (λ rows. AreInLists rows new) (sym with_less)
        (unlisted_found (find (is_at kept_key k) (map row_of entries)) refl new (subst (λ o. UnlistsFound o lists new) (entry_found kept_key entries under k) unlists))

  -- ONE CHANGED in its search alone
  module _ (k : Key) (f : KeptSearch → KeptSearch) (search : (kept : KeptSearch) → f kept ≡ record kept { search = (f kept).search }) (after : List (Key × KeptSearch)) (changed : after ≡ change_first (has_key k) (changed_by f) entries) where
    same_key_then : (kept : KeptSearch) → kept_key (f kept) ≡ kept_key kept
    same_key_then kept = ap kept_key (search kept)

    pub with_changed : map row_of after ≡ change_first (is_at kept_key k) f (map row_of entries)
    with_changed = rows_changed kept_key entries under k f after same_key_then changed

    pub under_with_changed : IsUnderKeys kept_key after
    under_with_changed = keyed_again kept_key after (change_first (is_at kept_key k) f (map row_of entries)) (under_change kept_key entries under k f after same_key_then changed)

    pub listed_with_changed : AreInLists (map row_of after) lists
    listed_with_changed = subst (λ rows. AreInLists rows lists) (sym with_changed) (lists_changed (is_at kept_key k) f (map row_of entries) lists search listed)

  -- FOUND
  pub sought_in : HasKeysApart entries → (host name : List ℕ) (keys : List Key) → keys ≡ of lists.names name
      → find (λ (key : Key). is_by_found host (value_at key entries)) keys ≡ key_in (find (is_sought host name) (map row_of entries))
  sought_in apart host name keys is =
      (λ i. find (λ (key : Key). is_by_found host (entry_found kept_key entries under key i)) ((is ∙ listed.names name) i))
      ∙ sought_by_keys host name (map row_of entries) (rows_apart kept_key entries under apart)

  pub oldest_in : (owner : List ℕ) → slice_get (of lists.hosts owner) 0 ≡ key_in (find (is_owned owner) (map row_of entries))
  oldest_in owner = ap (λ keys. slice_get keys 0) (listed.hosts owner) ∙ first_listed (is_owned owner) (map row_of entries)

  pub count_in : (owner : List ℕ) → length (of lists.hosts owner) ≡ length (filter (is_owned owner) (map row_of entries))
  count_in owner = ap length (listed.hosts owner) ∙ count_listed (is_owned owner) (map row_of entries)

  pub led_in : (name : List ℕ) → not (length (of lists.reals name) == 0) ≡ list_any (is_led name) (map row_of entries)
  led_in name = ap (λ keys. not (length keys == 0)) (listed.reals name) ∙ any_listed (is_led name) (map row_of entries)

  -- all are those of one owner
  pub all_in : map row_of (filter (is_owned_by 0) entries) ≡ map row_of entries
  all_in = entries_owned kept_key entries under 0 ∙ all_owned (map row_of entries)
