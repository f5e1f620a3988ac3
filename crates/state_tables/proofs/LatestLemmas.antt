-- What links were told last, each row under the CID of its link.
use Rattle.std.proofs.Common.{◌≡◌, ℕ, List, [], ◌∷◌, ◌++◌, Bool, true, false, not, cond, ◌||◌, ◌==◌, None, is_some, map, refl, sym, ap, ◌∙◌}
use Rattle.std.specs.Cmp.{nat_eq_equiv}
use Rattle.std.specs.Prelude.{Result, Ok, Err, OnOk, OnErr}
use Rattle.std.specs.List.{find, filter, list_any}
use Rattle.std.proofs.lemmas.Bool.{false≢true, or_parts}
use Rattle.rows.specs.Rows.{change_first}
use Rattle.row_index.specs.declared.key.Key.{Key}
use Rattle.row_index.specs.Rows.{same_key, has_key, lacks_key, row_of, value_at, HasKeysApart}
use Rattle.named_rows.specs.Indexes.{changed_by, IsApart}
use Rattle.named_rows.proofs.Keyed.{entry_found, entry_absent, keyed_again, rows_apart, rows_changed, rows_less, rows_more, under_change, under_less, under_more, value_at_keyed}
use Rattle.named_rows.proofs.Lists.{found_where_any, unfound_is_absent}
use Rattle.link_table.specs.LinkIndex.{key}
use Rattle.value_cache.specs.Held.{Held}
use Rattle.gateway_state.specs.declared.cached.LastMessage.{LastMessage}
use Rattle.gateway_state.specs.CachedRows.{is_cached_of, is_cached_elsewhere, put_row}
use Rattle.state_tables.specs.LatestRows.{AreApart, AreLatest, latest_key, unchanged, bare, with_held}
use Rattle.state_tables.proofs.ConnectionRows.{and_true}

-- the row that has a key is that of the link
has_key_of : (cid : ℕ) (k : Key) → k ≡ key cid 0 → (λ (row : LastMessage). same_key (latest_key row) k) ≡ is_cached_of cid
has_key_of cid k is = rw is (λ i row. and_true (row.cid == cid) i)

-- What holds of rows that are each under the CID of its link.
module _ (entries : List (Key × LastMessage)) (under : AreLatest entries) (cid : ℕ) (k : Key) (is_key : k ≡ key cid 0) where
  pub row_found : value_at k entries ≡ find (is_cached_of cid) (map row_of entries)
  row_found = entry_found latest_key entries under k ∙ ap (λ p. find p (map row_of entries)) (has_key_of cid k is_key)

  pub there_if_found : is_some (value_at k entries) ≡ list_any (is_cached_of cid) (map row_of entries)
  there_if_found = ap is_some row_found ∙ found_where_any (is_cached_of cid) (map row_of entries)

  pub none_found : list_any (is_cached_of cid) (map row_of entries) ≡ false → value_at k entries ≡ None
  none_found none = entry_absent latest_key entries under k (ap (λ p. list_any p (map row_of entries)) (has_key_of cid k is_key) ∙ none)

  pub latest_less : (new : List (Key × LastMessage)) → new ≡ filter (lacks_key k) entries → AreLatest new
  latest_less new is = keyed_again latest_key new (filter (λ row. not (same_key (latest_key row) k)) (map row_of entries)) (under_less latest_key entries under k new is)

  pub rows_left : (new : List (Key × LastMessage)) → new ≡ filter (lacks_key k) entries → map row_of new ≡ filter (is_cached_elsewhere cid) (map row_of entries)
  rows_left new is =
      rows_less latest_key entries under k new is
      ∙ ap (λ (p : LastMessage → Bool). filter (λ row. not (p row)) (map row_of entries)) (has_key_of cid k is_key)

  -- one of them with something else held
  module _ (f : Held → Held) (new : List (Key × LastMessage)) (is : new ≡ change_first (has_key k) (changed_by (with_held f)) entries) where
    pub latest_changed : AreLatest new
    latest_changed =
        keyed_again latest_key new (change_first (λ row. same_key (latest_key row) k) (with_held f) (map row_of entries))
        (under_change latest_key entries under k (with_held f) new (λ row. refl) is)

    pub rows_with : map row_of new ≡ change_first (is_cached_of cid) (with_held f) (map row_of entries)
    rows_with =
        rows_changed latest_key entries under k (with_held f) new (λ row. refl) is
        ∙ ap (λ p. change_first p (with_held f) (map row_of entries)) (has_key_of cid k is_key)

-- one more, unless that is refused
module _ (entries : List (Key × LastMessage)) (under : AreLatest entries) (row : LastMessage) (k : Key) (is_key : k ≡ latest_key row) (new : List (Key × LastMessage)) where
  pub latest_more : {T E : Type 0} (r : Result T E) → OnOk r (new ≡ entries ++ (k, row) ∷ []) → OnErr r (new ≡ entries) → AreLatest new
  latest_more (Ok _) ok err = keyed_again latest_key new (map row_of entries ++ row ∷ []) (under_more latest_key entries under row new (ok ∙ ap (λ j. entries ++ (j, row) ∷ []) is_key))
  latest_more (Err _) ok err = keyed_again latest_key new (map row_of entries) (err ∙ under)

  pub rows_and_one : {T E : Type 0} (r : Result T E) → OnOk r (new ≡ entries ++ (k, row) ∷ []) → OnOk r (map row_of new ≡ map row_of entries ++ row ∷ [])
  rows_and_one (Ok _) ok = rows_more latest_key entries under row new (ok ∙ ap (λ j. entries ++ (j, row) ∷ []) is_key)
  rows_and_one (Err _) ok = tt

links_apart : (rows : List LastMessage) → IsApart latest_key rows → AreApart rows
links_apart [] apart = tt
links_apart (row ∷ rows) apart =
    let test = has_key_of row.cid (latest_key row) refl in
    let none : find (λ (r : LastMessage). same_key (latest_key r) (latest_key row)) rows ≡ None = sym (value_at_keyed latest_key (latest_key row) rows) ∙ apart.0 in
    (unfound_is_absent (is_cached_of row.cid) rows (sym (ap (λ p. find p rows) test) ∙ none), links_apart rows apart.1)

-- keys that are apart are those of different links
pub latest_apart : (entries : List (Key × LastMessage)) → AreLatest entries → HasKeysApart entries → AreApart (map row_of entries)
latest_apart entries under apart = links_apart (map row_of entries) (rows_apart latest_key entries under apart)

-- a row that is there is all that is made
pub made_already : (server cid : ℕ) (rows : List LastMessage) → list_any (is_cached_of cid) rows ≡ true → put_row server cid unchanged rows ≡ rows
made_already server cid [] there = absurd (false≢true there)
made_already server cid (row ∷ rows) there =
    elim (is_cached_of cid row) as (λ t. (t || list_any (is_cached_of cid) rows) ≡ true → cond t (row ∷ rows) (row ∷ put_row server cid unchanged rows) ≡ row ∷ rows)
    [ true ↦ λ h. refl | false ↦ λ h. ap (λ xs. row ∷ xs) (made_already server cid rows h) ] there

-- else it is a last one
pub made_last : (server cid : ℕ) (rows : List LastMessage) → list_any (is_cached_of cid) rows ≡ false → put_row server cid unchanged rows ≡ rows ++ bare server cid ∷ []
made_last server cid [] none = refl
made_last server cid (row ∷ rows) none =
    let parts = or_parts (is_cached_of cid row) (list_any (is_cached_of cid) rows) none in
    rw parts.0 (ap (λ xs. row ∷ xs) (made_last server cid rows parts.1))

-- and then it is changed where it stands
pub made_and_changed : (server cid : ℕ) (f : Held → Held) (rows : List LastMessage) → change_first (is_cached_of cid) (with_held f) (put_row server cid unchanged rows) ≡ put_row server cid f rows
made_and_changed server cid f [] = rw (nat_eq_equiv.refl cid) refl
made_and_changed server cid f (row ∷ rows) =
    elim (is_cached_of cid row) as (λ t. is_cached_of cid row ≡ t → change_first (is_cached_of cid) (with_held f) (cond t (row ∷ rows) (row ∷ put_row server cid unchanged rows)) ≡ cond t (with_held f row ∷ rows) (row ∷ put_row server cid f rows))
    [ true ↦ λ h. rw h refl | false ↦ λ h. rw h (ap (λ xs. row ∷ xs) (made_and_changed server cid f rows)) ] refl
