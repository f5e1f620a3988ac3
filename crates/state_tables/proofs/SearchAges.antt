-- Searches that grow stale, and those that go.
use Rattle.std.proofs.Common.{◌≡◌, List, [], ◌∷◌, ◌++◌, Bool, true, false, cond, ◌||◌, Some, None, map, append_assoc, refl, sym, ap, subst, ◌∙◌}
use Rattle.std.specs.List.{filter, find, list_any}
use Rattle.std.proofs.lemmas.Bool.{or_parts}
use Rattle.std.proofs.lemmas.List.{map-append}
use Rattle.rows.specs.Rows.{change_first}
use Rattle.row_index.specs.declared.key.Key.{Key}
use Rattle.row_index.specs.Rows.{same_key}
use Rattle.row_index.proofs.Keys.{same_key_itself}
use Rattle.named_rows.specs.Indexes.{IsApart, is_at, is_not_at}
use Rattle.named_rows.proofs.Keyed.{value_at_keyed}
use Rattle.named_rows.proofs.Lists.{none_dropped, unfound_is_absent}
use Rattle.rule_desk.specs.declared.policy.Policy.{Policy}
use Rattle.gateway_state.specs.Searches.{grown_stale, is_fresh, is_stale}
use Rattle.gateway_state.specs.Variables.{search_names}
use Rattle.state_tables.specs.declared.kept.KeptSearch.{KeptSearch}
use Rattle.state_tables.specs.Kept.{AreRight, aged_found, all_aged, grown_old, is_fresh_row, is_stale_row, kept_key, reals_of, searches_of}
use Rattle.state_tables.proofs.KeptSearches.{filtered_same, fresh_is, mapped_same, old_of, other_way, reals_same, right_filtered, right_mapped, right_old, stale_is}

-- KEYS that are apart

abbrev pub is_same : Key → Key → Bool
is_same k other = same_key other k

abbrev pub AreApart : List Key → Type 0
AreApart [] = Unit {0}
AreApart (k ∷ keys) = (list_any (is_same k) keys ≡ false) × AreApart keys

any_mapped : (k : Key) (rows : List KeptSearch) → list_any (is_at kept_key k) rows ≡ list_any (is_same k) (map kept_key rows)
any_mapped k [] = refl
any_mapped k (row ∷ rows) = ap (λ t. same_key (kept_key row) k || t) (any_mapped k rows)

keys_apart : (rows : List KeptSearch) → IsApart kept_key rows → AreApart (map kept_key rows)
keys_apart [] apart = tt
keys_apart (row ∷ rows) apart =
    let none : find (is_at kept_key (kept_key row)) rows ≡ None = sym (value_at_keyed kept_key (kept_key row) rows) ∙ apart.0 in
    (sym (any_mapped (kept_key row) rows) ∙ unfound_is_absent (is_at kept_key (kept_key row)) rows none, keys_apart rows apart.1)

none_amid : (p : Key → Bool) (before : List Key) (k : Key) (after : List Key) → list_any p (before ++ k ∷ after) ≡ false → (p k ≡ false) × (list_any p (before ++ after) ≡ false)
none_amid p [] k after e = or_parts (p k) (list_any p after) e
none_amid p (b ∷ before) k after e =
    let parts = or_parts (p b) (list_any p (before ++ k ∷ after)) e in
    let rest = none_amid p before k after parts.1 in
    (rest.0, rw parts.0 rest.1)

-- one in the middle is apart from those before it and behind it, and these are apart
amid : (before : List Key) (k : Key) (after : List Key) → AreApart (before ++ k ∷ after)
    → (list_any (is_same k) before ≡ false) × ((list_any (is_same k) after ≡ false) × AreApart (before ++ after))
amid [] k after apart = (refl, apart)
amid (b ∷ before) k after apart =
    let beside = none_amid (is_same b) before k after apart.0 in
    let rest = amid before k after apart.1 in
    (rw (other_way k b beside.0) rest.0, (rest.1.0, (beside.1, rest.1.1)))

-- THE ROW in the middle

module _ (k : Key) (f : KeptSearch → KeptSearch) (row : KeptSearch) (here : same_key (kept_key row) k ≡ true) (left : List KeptSearch) where
  found_amid : (done : List KeptSearch) → list_any (is_at kept_key k) done ≡ false → find (is_at kept_key k) (done ++ row ∷ left) ≡ Some row
  found_amid [] none = rw here refl
  found_amid (d ∷ done) none =
      let parts = or_parts (is_at kept_key k d) (list_any (is_at kept_key k) done) none in
      rw parts.0 (found_amid done parts.1)

  changed_amid : (done : List KeptSearch) → list_any (is_at kept_key k) done ≡ false → change_first (is_at kept_key k) f (done ++ row ∷ left) ≡ done ++ f row ∷ left
  changed_amid [] none = rw here refl
  changed_amid (d ∷ done) none =
      let parts = or_parts (is_at kept_key k d) (list_any (is_at kept_key k) done) none in
      rw parts.0 (ap (λ rest. d ∷ rest) (changed_amid done parts.1))

  removed_amid : (done : List KeptSearch) → list_any (is_at kept_key k) done ≡ false → list_any (is_at kept_key k) left ≡ false → filter (is_not_at kept_key k) (done ++ row ∷ left) ≡ done ++ left
  removed_amid [] none behind = rw here (none_dropped (is_at kept_key k) left behind)
  removed_amid (d ∷ done) none behind =
      let parts = or_parts (is_at kept_key k d) (list_any (is_at kept_key k) done) none in
      rw parts.0 (ap (λ rest. d ∷ rest) (removed_amid done parts.1 behind))

-- rows that were aged stand before those that weren't yet
aged_so_far : (done left : List KeptSearch) → AreApart (map kept_key (done ++ left)) → all_aged (map kept_key left) (done ++ left) ≡ done ++ map grown_old (filter is_fresh_row left)
aged_so_far done [] apart = refl
aged_so_far done (row ∷ left) apart =
    ap (all_aged (map kept_key left)) (ap (aged_found k (done ++ row ∷ left)) (found_amid k grown_old row (same_key_itself k) left done none))
    ∙ (elim (is_fresh_row row) as (λ t. all_aged (map kept_key left) (cond t (change_first (is_at kept_key k) grown_old (done ++ row ∷ left)) (filter (is_not_at kept_key k) (done ++ row ∷ left))) ≡ done ++ map grown_old (cond t (row ∷ filter is_fresh_row left) (filter is_fresh_row left))) [
      | true ↦
          ap (all_aged (map kept_key left)) (changed_amid k grown_old row (same_key_itself k) left done none ∙ sym (append_assoc done (grown_old row ∷ []) left))
          ∙ aged_so_far (done ++ grown_old row ∷ []) left (subst AreApart same_keys apart)
          ∙ append_assoc done (grown_old row ∷ []) (map grown_old (filter is_fresh_row left))
      | false ↦
          ap (all_aged (map kept_key left)) (removed_amid k grown_old row (same_key_itself k) left done none behind)
          ∙ aged_so_far done left (subst AreApart (sym (map-append kept_key done left)) parts.1.1)
    ])
  where
    k : Key
    k = kept_key row

    parts : (list_any (is_same k) (map kept_key done) ≡ false) × ((list_any (is_same k) (map kept_key left) ≡ false) × AreApart (map kept_key done ++ map kept_key left))
    parts = amid (map kept_key done) k (map kept_key left) (subst AreApart (map-append kept_key done (row ∷ left)) apart)

    none : list_any (is_at kept_key k) done ≡ false
    none = any_mapped k done ∙ parts.0

    behind : list_any (is_at kept_key k) left ≡ false
    behind = any_mapped k left ∙ parts.1.0

    same_keys : map kept_key (done ++ row ∷ left) ≡ map kept_key ((done ++ grown_old row ∷ []) ++ left)
    same_keys =
        map-append kept_key done (row ∷ left) ∙ sym (map-append kept_key done (grown_old row ∷ left))
        ∙ ap (map kept_key) (sym (append_assoc done (grown_old row ∷ []) left))

-- with the keys of all rows
pub aged_all : (rows : List KeptSearch) → IsApart kept_key rows → all_aged (map kept_key rows) rows ≡ map grown_old (filter is_fresh_row rows)
aged_all rows apart = aged_so_far [] rows (keys_apart rows apart)

-- SEARCHES

module _ (policy : Policy) (rows : List KeptSearch) (right : AreRight policy rows) where
  pub aged_searches : IsApart kept_key rows → searches_of (all_aged (map kept_key rows) rows) ≡ map grown_stale (filter is_fresh (searches_of rows))
  aged_searches apart =
      ap searches_of (aged_all rows apart)
      ∙ mapped_same policy grown_old grown_stale (old_of policy) (filter is_fresh_row rows) (right_filtered policy is_fresh_row rows right)
      ∙ ap (map grown_stale) (filtered_same policy is_fresh_row is_fresh (λ kept r. fresh_is policy kept r) rows right)

  pub aged_right : IsApart kept_key rows → AreRight policy (all_aged (map kept_key rows) rows)
  aged_right apart =
      subst (AreRight policy) (sym (aged_all rows apart)) (right_mapped policy grown_old (right_old policy) (filter is_fresh_row rows) (right_filtered policy is_fresh_row rows right))

  -- the real names of those that go
  pub stale_names : reals_of (filter is_stale_row rows) ≡ search_names policy (filter is_stale (searches_of rows))
  stale_names =
      reals_same policy (filter is_stale_row rows) (right_filtered policy is_stale_row rows right)
      ∙ ap (search_names policy) (filtered_same policy is_stale_row is_stale (λ kept r. stale_is policy kept r) rows right)
