-- Searches that are remembered, made again and forgotten, in the rows in which they are kept.
use Rattle.std.proofs.Common.{◌≡◌, ℕ, suc, ◌+◌, ◌<◌, Bor, drop, drop-cons, get_or, IfOk, OnErr, append_assoc, arith, List, [], ◌∷◌, ◌++◌, Bool, true, false, cond, not, ◌&&◌, nat_lt, nat_le, Option, Some, None, Result, Ok, Err, OnOk, map, length, append-nil, refl, sym, ap, subst, ◌∙◌, true≢false}
use Rattle.std.specs.Prelude.{bytes_eq, slice_get, option_map}
use Rattle.std.specs.List.{cons_option, filter, find, list_any}
use Rattle.std.specs.Option.{unwrap_or}
use Rattle.std.specs.Cmp.Lexicographic.{bytes_decides}
use Rattle.std.proofs.lemmas.Bool.{false≢true, and_from, or_parts}
use Rattle.std.proofs.lemmas.List.Elements.{filter-append}
use Rattle.std.proofs.lemmas.List.{length-map}
use Rattle.rows.specs.Rows.{change_first, remove_first}
use Rattle.pv_name.specs.Host.{lowercase, same_host}
use Rattle.row_index.specs.declared.key.Key.{Key}
use Rattle.named_rows.specs.Indexes.{IsApart, is_at, is_not_at}
use Rattle.row_index.specs.Rows.{same_key}
use Rattle.row_index.proofs.Keys.{same_key_is_same}
use Rattle.named_rows.proofs.Keyed.{first_goes, found_again}
use Rattle.named_rows.proofs.Lists.{found_before, found_is_there, found_passes, none_dropped, unfound_is_absent}
use Rattle.pv_alias.specs.declared.lead.Lead.{Lead}
use Rattle.gateway_state.specs.Resolution.{lead_of}
use Rattle.rule_desk.specs.declared.policy.Policy.{Policy}
use Rattle.gateway_state.specs.declared.limits.Limits.{Limits}
use Rattle.gateway_state.specs.declared.search.RememberedSearch.{RememberedSearch}
use Rattle.gateway_state.specs.Searches.{has_its_share, is_from, left_by_search, made_now, outworn, refreshed, same_search, search_count, searched_again, searched_first, with_search, without_search}
use Rattle.state_tables.specs.declared.kept.KeptSearch.{KeptSearch}
use Rattle.state_tables.specs.Kept.{AreRight, IsRight, LedByOneMore, again_found, has_share, hollow, kept_as, is_owned, is_sought, kept_key, key_in, made_again, made_again_under, outworn_row, rows_after, rows_again, search_in, search_of, searches_of, serial_key}
use Rattle.state_tables.proofs.KeptSearches.{again_of, changed_same, filtered_same, fresh_of, found_right, found_same, joined_searches, key_changes, key_finds, key_takes, other_way, owned_is, removed_same, right_again, right_filtered, right_fresh, right_joined, right_made, right_with_first, search_is, sought_is}

-- THE SAME SEARCH

first_of_and : (a b : Bool) → (a && b) ≡ true → a ≡ true
first_of_and true b e = refl
first_of_and false b e = e

second_of_and : (a b : Bool) → (a && b) ≡ true → b ≡ true
second_of_and true b e = e
second_of_and false b e = absurd (false≢true e)

bytes_same : (a b : List ℕ) → bytes_eq a b ≡ true → a ≡ b
bytes_same a b e = (bytes_decides a b).0 e

bytes_itself : (a : List ℕ) → bytes_eq a a ≡ true
bytes_itself a = (bytes_decides a a).1 refl

-- each search is the same as itself
same_itself : (row : RememberedSearch) → same_search row.host row.name row ≡ true
same_itself row = and_from (bytes_eq row.name row.name) (same_host row.host row.host) (bytes_itself row.name) (bytes_itself (lowercase row.host))

-- what holds of one by its name and its host holds of the same search
sought_alike : (host name : List ℕ) (row other : RememberedSearch) → same_search host name row ≡ true → same_search row.host row.name other ≡ true → same_search host name other ≡ true
sought_alike host name row other this same =
    let named = bytes_same other.name row.name (first_of_and (bytes_eq other.name row.name) (same_host other.host row.host) same) in
    let hosted = bytes_same (lowercase other.host) (lowercase row.host) (second_of_and (bytes_eq other.name row.name) (same_host other.host row.host) same) in
    (λ i. bytes_eq (named i) name && bytes_eq (hosted i) (lowercase host)) ∙ this

from_alike : (host : List ℕ) (row other : RememberedSearch) → is_from host row ≡ true → same_search row.host row.name other ≡ true → is_from host other ≡ true
from_alike host row other this same =
    let hosted = bytes_same (lowercase other.host) (lowercase row.host) (second_of_and (bytes_eq other.name row.name) (same_host other.host row.host) same) in
    ap (λ h. bytes_eq h (lowercase host)) hosted ∙ this

first_alike : (p r : RememberedSearch → Bool) (row : RememberedSearch) → r row ≡ true → ((x : RememberedSearch) → r x ≡ true → p x ≡ true) → (rows : List RememberedSearch) → find p rows ≡ Some row → remove_first r rows ≡ remove_first p rows
first_alike p r row this within [] e = refl
first_alike p r row this within (first ∷ rows) e =
    elim (p first) as (λ t. p first ≡ t → cond t (Some first) (find p rows) ≡ Some row → remove_first r (first ∷ rows) ≡ cond t rows (first ∷ remove_first p rows)) [
      | true ↦ λ _ h. let is : first ≡ row = cc in rw (ap r is ∙ this) refl
      | false ↦ λ out h. rw (elsewhere out) (ap (λ rest. first ∷ rest) (first_alike p r row this within rows h))
    ] refl e
  where
    elsewhere : p first ≡ false → r first ≡ false
    elsewhere out =
        elim (r first) as (λ t. r first ≡ t → t ≡ false) [ true ↦ λ h. absurd (true≢false (sym (within first h) ∙ out)) | false ↦ λ _. refl ] refl

none_first : (p : RememberedSearch → Bool) (rows : List RememberedSearch) → find p rows ≡ None → remove_first p rows ≡ rows
none_first p [] e = refl
none_first p (row ∷ rows) e =
    elim (p row) as (λ t. cond t (Some row) (find p rows) ≡ None → cond t rows (row ∷ remove_first p rows) ≡ row ∷ rows)
    [ true ↦ λ h. cc | false ↦ λ h. ap (λ rest. row ∷ rest) (none_first p rows h) ] e

-- without the first search that passes
without_found : (p : RememberedSearch → Bool) → ((row other : RememberedSearch) → p row ≡ true → same_search row.host row.name other ≡ true → p other ≡ true) → (rows : List RememberedSearch)
    → without_search (find p rows) rows ≡ remove_first p rows
without_found p alike rows =
    elim (find p rows) as (λ o. find p rows ≡ o → without_search o rows ≡ remove_first p rows) [
      | None ↦ λ e. sym (none_first p rows e)
      | Some row ↦ λ e. first_alike p (same_search row.host row.name) row (same_itself row) (λ x. alike row x (found_passes p rows row e)) rows e
    ] refl

pub without_sought : (host name : List ℕ) (rows : List RememberedSearch) → without_search (find (same_search host name) rows) rows ≡ remove_first (same_search host name) rows
without_sought host name rows = without_found (same_search host name) (sought_alike host name) rows

-- ENDED

module _ (policy : Policy) (rows : List KeptSearch) (right : AreRight policy rows) (apart : IsApart kept_key rows) (host name : List ℕ) where
  pub ended : (key : Key) → Some key ≡ key_in (find (is_sought host name) rows)
      → searches_of (filter (is_not_at kept_key key) rows) ≡ without_search (find (same_search host name) (searches_of rows)) (searches_of rows)
  ended key found =
      ap searches_of (key_takes (is_sought host name) rows key apart found)
      ∙ removed_same policy (is_sought host name) (same_search host name) (λ kept r. sought_is policy kept r host name) rows right
      ∙ sym (without_sought host name (searches_of rows))

  pub ended_is : (key : Key) → Some key ≡ key_in (find (is_sought host name) rows)
      → search_in (find (is_at kept_key key) rows) ≡ find (same_search host name) (searches_of rows)
  ended_is key found =
      ap search_in (key_finds (is_sought host name) rows key apart found)
      ∙ found_same policy (is_sought host name) (same_search host name) (λ kept r. sought_is policy kept r host name) rows right

  -- MADE AGAIN

  again_searches : (serial : ℕ) (o : Option KeptSearch) (s : Option RememberedSearch) → ((kept : KeptSearch) → o ≡ Some kept → IsRight policy kept) → search_in o ≡ s → searches_of (again_found serial o) ≡ map refreshed (cons_option s [])
  again_searches serial None s whole e = ap (λ x. map refreshed (cons_option x [])) e
  again_searches serial (Some kept) s whole e =
      let there = search_is policy kept (whole kept refl) in
      ap (λ (x : RememberedSearch). x ∷ []) (again_of policy serial kept (whole kept refl))
      ∙ ap (λ (x : Option RememberedSearch). map refreshed (cons_option x [])) (sym there ∙ e)

  again_right : (serial : ℕ) (o : Option KeptSearch) → ((kept : KeptSearch) → o ≡ Some kept → IsRight policy kept) → AreRight policy (again_found serial o)
  again_right serial None whole = tt
  again_right serial (Some kept) whole = (right_again policy serial kept (whole kept refl), tt)

  module _ (limits : Limits) (serial : ℕ) (key : Key) (found : Some key ≡ key_in (find (is_sought host name) rows)) where
    here : search_in (find (is_at kept_key key) rows) ≡ find (same_search host name) (searches_of rows)
    here = ended_is key found

    pub again_is : searches_of (rows_again limits serial key rows) ≡ searched_again limits host name (searches_of rows)
    again_is =
        elim limits.makes_room as (λ t. searches_of (cond t (filter (is_not_at kept_key key) rows ++ again_found serial (find (is_at kept_key key) rows)) (change_first (is_at kept_key key) made_again rows))
        ≡ cond t (remove_first (same_search host name) (searches_of rows) ++ map refreshed (cons_option (find (same_search host name) (searches_of rows)) [])) (change_first (same_search host name) refreshed (searches_of rows))) [
          | true ↦
              joined_searches (filter (is_not_at kept_key key) rows) (again_found serial (find (is_at kept_key key) rows))
              ∙ (λ i. (ended key found ∙ without_sought host name (searches_of rows)) i ++ again_searches serial (find (is_at kept_key key) rows) (find (same_search host name) (searches_of rows)) (λ kept e. found_right policy (is_at kept_key key) rows kept right e) here i)
          | false ↦
              ap searches_of (key_changes (is_sought host name) rows key apart found made_again)
              ∙ changed_same policy (is_sought host name) (same_search host name) (λ kept r. sought_is policy kept r host name) made_again refreshed (fresh_of policy) rows right
        ]

    pub again_stays_right : AreRight policy (rows_again limits serial key rows)
    again_stays_right =
        elim limits.makes_room as (λ t. AreRight policy (cond t (filter (is_not_at kept_key key) rows ++ again_found serial (find (is_at kept_key key) rows)) (change_first (is_at kept_key key) made_again rows))) [
          | true ↦ right_joined policy (filter (is_not_at kept_key key) rows) (again_found serial (find (is_at kept_key key) rows)) (right_filtered policy (is_not_at kept_key key) rows right) (again_right serial (find (is_at kept_key key) rows) (λ kept e. found_right policy (is_at kept_key key) rows kept right e))
          | false ↦ right_with_first policy (is_at kept_key key) made_again (right_fresh policy) rows right
        ]

-- OUTWORN

rows_without : (q : KeptSearch → Bool) (rows : List KeptSearch) → IsApart kept_key rows → rows_after (find q rows) rows ≡ remove_first q rows
rows_without q rows apart =
    elim (find q rows) as (λ o. find q rows ≡ o → rows_after o rows ≡ remove_first q rows) [
      | None ↦ λ e. sym (none_kept rows e)
      | Some row ↦ λ e. first_goes kept_key q rows row apart e
    ] refl
  where
    none_kept : (some : List KeptSearch) → find q some ≡ None → remove_first q some ≡ some
    none_kept [] e = refl
    none_kept (row ∷ some) e =
        elim (q row) as (λ t. cond t (Some row) (find q some) ≡ None → cond t some (row ∷ remove_first q some) ≡ row ∷ some)
        [ true ↦ λ h. cc | false ↦ λ h. ap (λ rest. row ∷ rest) (none_kept some h) ] e

first_of_all : (rows : List KeptSearch) → slice_get rows 0 ≡ find (λ _. true) rows
first_of_all [] = refl
first_of_all (row ∷ rows) = refl

first_search : (rows : List RememberedSearch) → slice_get rows 0 ≡ find (λ _. true) rows
first_search [] = refl
first_search (row ∷ rows) = refl

module _ (policy : Policy) (rows : List KeptSearch) (right : AreRight policy rows) (apart : IsApart kept_key rows) (limits : Limits) (host : List ℕ) where
  counted : length (filter (is_owned (lowercase host)) rows) ≡ search_count host (searches_of rows)
  counted =
      sym (length-map (filter (is_owned (lowercase host)) rows) search_of)
      ∙ ap length (filtered_same policy (is_owned (lowercase host)) (is_from host) (λ kept r. owned_is policy kept r host) rows right)

  share : has_share limits (lowercase host) rows ≡ has_its_share limits host (searches_of rows)
  share = ap (λ n. nat_lt 0 n && nat_le limits.share n) counted

  full : nat_le limits.searches (length rows) ≡ nat_le limits.searches (length (searches_of rows))
  full = ap (nat_le limits.searches) (sym (length-map rows search_of))

  -- the search that goes
  pub outworn_is : search_in (outworn_row limits (lowercase host) rows) ≡ outworn limits host (searches_of rows)
  outworn_is =
      rw (share, full)
      (elim (has_its_share limits host (searches_of rows)) as (λ t. search_in (cond t (find (is_owned (lowercase host)) rows) (cond (nat_le limits.searches (length (searches_of rows))) (slice_get rows 0) None))
      ≡ cond t (find (is_from host) (searches_of rows)) (cond (nat_le limits.searches (length (searches_of rows))) (slice_get (searches_of rows) 0) None)) [
        | true ↦ found_same policy (is_owned (lowercase host)) (is_from host) (λ kept r. owned_is policy kept r host) rows right
        | false ↦ elim (nat_le limits.searches (length (searches_of rows))) as (λ t. search_in (cond t (slice_get rows 0) None) ≡ cond t (slice_get (searches_of rows) 0) None) [
          | true ↦ ap search_in (first_of_all rows) ∙ found_same policy (λ _. true) (λ _. true) (λ kept r. refl) rows right ∙ sym (first_search (searches_of rows))
          | false ↦ refl
        ]
      ])

  out_by : (q : KeptSearch → Bool) (p : RememberedSearch → Bool) → ((kept : KeptSearch) → IsRight policy kept → q kept ≡ p (search_of kept))
      → ((row other : RememberedSearch) → p row ≡ true → same_search row.host row.name other ≡ true → p other ≡ true)
      → searches_of (rows_after (find q rows) rows) ≡ without_search (find p (searches_of rows)) (searches_of rows)
  out_by q p same alike =
      ap searches_of (rows_without q rows apart) ∙ removed_same policy q p same rows right ∙ sym (without_found p alike (searches_of rows))

  -- the rows without it
  pub outworn_goes : searches_of (rows_after (outworn_row limits (lowercase host) rows) rows) ≡ without_search (outworn limits host (searches_of rows)) (searches_of rows)
  outworn_goes =
      rw (share, full)
      (elim (has_its_share limits host (searches_of rows)) as (λ t. searches_of (rows_after (cond t (find (is_owned (lowercase host)) rows) (cond (nat_le limits.searches (length (searches_of rows))) (slice_get rows 0) None)) rows)
      ≡ without_search (cond t (find (is_from host) (searches_of rows)) (cond (nat_le limits.searches (length (searches_of rows))) (slice_get (searches_of rows) 0) None)) (searches_of rows)) [
        | true ↦ out_by (is_owned (lowercase host)) (is_from host) (λ kept r. owned_is policy kept r host) (from_alike host)
        | false ↦ elim (nat_le limits.searches (length (searches_of rows))) as (λ t. searches_of (rows_after (cond t (slice_get rows 0) None) rows) ≡ without_search (cond t (slice_get (searches_of rows) 0) None) (searches_of rows)) [
          | true ↦ rw (first_of_all rows, first_search (searches_of rows)) (out_by (λ _. true) (λ _. true) (λ kept r. refl) (λ row other this same. refl))
          | false ↦ refl
        ]
      ])

-- ONE TAKEN IN, for which an old one goes

none_found : (rows : List KeptSearch) → None ≡ find (λ _. false) rows
none_found [] = refl
none_found (row ∷ rows) = none_found rows

-- the row that goes is one that a test finds first
outworn_found : (limits : Limits) (owner : List ℕ) (rows : List KeptSearch) → (q : KeptSearch → Bool) × (outworn_row limits owner rows ≡ find q rows)
outworn_found limits owner rows =
    elim (has_share limits owner rows) as (λ t. (q : KeptSearch → Bool) × (cond t (find (is_owned owner) rows) (cond (nat_le limits.searches (length rows)) (slice_get rows 0) None) ≡ find q rows)) [
      | true ↦ (is_owned owner, refl)
      | false ↦ elim (nat_le limits.searches (length rows)) as (λ t. (q : KeptSearch → Bool) × (cond t (slice_get rows 0) None ≡ find q rows))
          [ true ↦ ((λ _. true), first_of_all rows) | false ↦ ((λ _. false), none_found rows) ]
    ]

-- a test that no row passes isn't passed by the one that is found
found_fails : (q p : KeptSearch → Bool) (rows : List KeptSearch) (row : KeptSearch) → find q rows ≡ Some row → list_any p rows ≡ false → p row ≡ false
found_fails q p [] row e none = cc
found_fails q p (first ∷ rows) row e none =
    let parts = or_parts (p first) (list_any p rows) none in
    elim (q first) as (λ t. cond t (Some first) (find q rows) ≡ Some row → p row ≡ false)
    [ true ↦ λ h. let is : first ≡ row = cc in ap p (sym is) ∙ parts.0 | false ↦ λ h. found_fails q p rows row h parts.1 ] e

module _ (limits : Limits) (owner : List ℕ) (rows : List KeptSearch) (apart : IsApart kept_key rows) (kept : KeptSearch) (fresh : list_any (is_at kept_key (kept_key kept)) rows ≡ false) where
  goes_by : (q : KeptSearch → Bool) (o : Option KeptSearch) (key : Key) → o ≡ find q rows → Some key ≡ key_in o
      → (filter (is_not_at kept_key key) (rows ++ kept ∷ []) ≡ rows_after o rows ++ kept ∷ []) × (search_in (find (is_at kept_key key) (rows ++ kept ∷ [])) ≡ search_in o)
  goes_by q None key found is = cc
  goes_by q (Some row) key found is =
      let there = found_again kept_key q rows row apart (sym found) in
      let k : kept_key row ≡ key = cc in
      let other : same_key (kept_key kept) (kept_key row) ≡ false = other_way (kept_key row) (kept_key kept) (found_fails q (is_at kept_key (kept_key kept)) rows row (sym found) fresh) in
      let last : filter (is_not_at kept_key (kept_key row)) (kept ∷ []) ≡ kept ∷ [] = rw other refl in
      let P : Key → Type 0 = λ j. (filter (is_not_at kept_key j) (rows ++ kept ∷ []) ≡ filter (is_not_at kept_key (kept_key row)) rows ++ kept ∷ []) × (search_in (find (is_at kept_key j) (rows ++ kept ∷ [])) ≡ row.search) in
      subst P k (
        filter-append (is_not_at kept_key (kept_key row)) rows (kept ∷ []) ∙ ap (λ some. filter (is_not_at kept_key (kept_key row)) rows ++ some) last,
        ap search_in (found_before (is_at kept_key (kept_key row)) rows (kept ∷ []) (found_is_there (is_at kept_key (kept_key row)) rows row there) ∙ there),
      )

  pub goes_for_one : (key : Key) → Some key ≡ key_in (outworn_row limits owner rows) → filter (is_not_at kept_key key) (rows ++ kept ∷ []) ≡ rows_after (outworn_row limits owner rows) rows ++ kept ∷ []
  goes_for_one key is =
      let found = outworn_found limits owner rows in
      (goes_by found.0 (outworn_row limits owner rows) key found.1 is).0

  pub gone_for_one : (key : Key) → Some key ≡ key_in (outworn_row limits owner rows) → search_in (find (is_at kept_key key) (rows ++ kept ∷ [])) ≡ search_in (outworn_row limits owner rows)
  gone_for_one key is =
      let found = outworn_found limits owner rows in
      (goes_by found.0 (outworn_row limits owner rows) key found.1 is).1

-- where none goes
pub none_goes : (o : Option KeptSearch) → None ≡ key_in o → (rows : List KeptSearch) → rows ≡ rows_after o rows
none_goes None is rows = refl
none_goes (Some row) is rows = cc

pub none_gone : (o : Option KeptSearch) → None ≡ key_in o → None ≡ search_in o
none_gone None is = refl
none_gone (Some row) is = cc

-- none is ended where none is sought
pub none_sought : (policy : Policy) (rows : List KeptSearch) → AreRight policy rows → (host name : List ℕ) → None ≡ key_in (find (is_sought host name) rows) → None ≡ find (same_search host name) (searches_of rows)
none_sought policy rows right host name is =
    none_gone (find (is_sought host name) rows) is
    ∙ found_same policy (is_sought host name) (same_search host name) (λ kept r. sought_is policy kept r host name) rows right

-- MOVED behind all others

pub moved_nowhere : (rows : List KeptSearch) (key : Key) (serial : ℕ) → None ≡ option_map (made_again_under serial) (find (is_at kept_key key) rows)
    → rows ≡ filter (is_not_at kept_key key) rows ++ again_found serial (find (is_at kept_key key) rows)
moved_nowhere rows key serial =
    elim (find (is_at kept_key key) rows) as (λ o. find (is_at kept_key key) rows ≡ o → None ≡ option_map (made_again_under serial) o → rows ≡ filter (is_not_at kept_key key) rows ++ again_found serial o) [
      | None ↦ λ none _. sym (append-nil (filter (is_not_at kept_key key) rows) ∙ none_dropped (is_at kept_key key) rows (unfound_is_absent (is_at kept_key key) rows none))
      | Some kept ↦ λ _ is. cc
    ] refl

pub moved_last : (rows : List KeptSearch) (key : Key) (serial : ℕ) (row : KeptSearch) → Some row ≡ option_map (made_again_under serial) (find (is_at kept_key key) rows)
    → list_any (is_at kept_key (serial_key serial)) rows ≡ false
    → filter (is_not_at kept_key key) (rows ++ row ∷ []) ≡ filter (is_not_at kept_key key) rows ++ again_found serial (find (is_at kept_key key) rows)
moved_last rows key serial row again fresh =
    elim (find (is_at kept_key key) rows) as (λ o. find (is_at kept_key key) rows ≡ o → Some row ≡ option_map (made_again_under serial) o → filter (is_not_at kept_key key) (rows ++ row ∷ []) ≡ filter (is_not_at kept_key key) rows ++ again_found serial o) [
      | None ↦ λ _ is. cc
      | Some kept ↦ λ found is.
          let same : row ≡ made_again_under serial kept = cc in
          let k : kept_key kept ≡ key = same_key_is_same (kept_key kept) key (found_passes (is_at kept_key key) rows kept found) in
          let other : same_key (serial_key serial) (kept_key kept) ≡ false = other_way (kept_key kept) (serial_key serial) (found_fails (is_at kept_key key) (is_at kept_key (serial_key serial)) rows kept found fresh) in
          let apart : same_key (kept_key row) key ≡ false = ap (λ (r : KeptSearch). same_key (kept_key r) key) same ∙ ap (same_key (serial_key serial)) (sym k) ∙ other in
          filter-append (is_not_at kept_key key) rows (row ∷ [])
          ∙ (λ i. filter (is_not_at kept_key key) rows ++ cond (not (apart i)) (row ∷ []) [])
          ∙ ap (λ (r : KeptSearch). filter (is_not_at kept_key key) rows ++ r ∷ []) same
    ] refl again

-- REMEMBERED for the first time

module _ (policy : Policy) (rows : List KeptSearch) (right : AreRight policy rows) (limits : Limits) (host name : List ℕ) where
  -- where old ones stay and there is no room
  pub first_refused : limits.makes_room ≡ false → nat_le limits.searches (length rows) ≡ true → searches_of rows ≡ searched_first limits host name (searches_of rows)
  first_refused room full = rw (room, length-map rows search_of, full) refl

  -- where there is room
  pub first_added : limits.makes_room ≡ false → nat_le limits.searches (length rows) ≡ false → (kept : KeptSearch) → search_of kept ≡ made_now host name → searches_of (rows ++ kept ∷ []) ≡ searched_first limits host name (searches_of rows)
  first_added room full kept is =
      rw (room, length-map rows search_of, full) (joined_searches rows (kept ∷ []) ∙ ap (λ s. searches_of rows ++ s ∷ []) is)

  -- where an old one goes, or there is room
  pub first_taken_in : limits.makes_room ≡ true → IsApart kept_key rows → (kept : KeptSearch) → search_of kept ≡ made_now host name → (owner : List ℕ) → owner ≡ lowercase host
      → searches_of (rows_after (outworn_row limits owner rows) rows ++ kept ∷ []) ≡ searched_first limits host name (searches_of rows)
  first_taken_in room apart kept made owner is =
      rw (room, is)
      (joined_searches (rows_after (outworn_row limits (lowercase host) rows) rows) (kept ∷ [])
      ∙ (λ i. outworn_goes policy rows right apart limits host i ++ made i ∷ []))

  -- what goes for it
  pub none_left : list_any (same_search host name) (searches_of rows) ≡ false → limits.makes_room ≡ false → None ≡ left_by_search limits host name (searches_of rows)
  none_left new room = rw (new, room) refl

  pub left_is : IsApart kept_key rows → list_any (same_search host name) (searches_of rows) ≡ false → limits.makes_room ≡ true → (owner : List ℕ) → owner ≡ lowercase host
      → search_in (outworn_row limits owner rows) ≡ left_by_search limits host name (searches_of rows)
  left_is apart new room owner is = rw (new, room, is) (outworn_is policy rows right apart limits host)

-- none goes where one is made again
pub none_left_again : (limits : Limits) (host name : List ℕ) (rows : List RememberedSearch) → list_any (same_search host name) rows ≡ true → None ≡ left_by_search limits host name rows
none_left_again limits host name rows there = rw there refl

-- LED by another policy
module _ (policy : Policy) (row : KeptSearch) (search copy : RememberedSearch) (serial : ℕ) (lead : Option Lead) (kept : KeptSearch) where
  pub led_one_more : row.search ≡ Some search → copy ≡ search → lead ≡ lead_of policy search.host search.name → kept ≡ kept_as serial lead copy
      → {T E : Type 0} (r : Result T E) (old new : List KeptSearch) → OnOk r (new ≡ old ++ kept ∷ []) → OnOk r (LedByOneMore policy row old new)
  led_one_more whole same leads is r old new added =
      let right : IsRight policy kept = right_made policy serial copy lead kept (leads ∙ sym (ap (λ (s : RememberedSearch). lead_of policy s.host s.name) same)) is in
      elim r as (λ t. OnOk t (new ≡ old ++ kept ∷ []) → OnOk t (LedByOneMore policy row old new)) [
        | Ok _ ↦ λ e before. (
          subst (AreRight policy) (sym e) (right_joined policy old (kept ∷ []) before (right, tt)),
          ap searches_of e ∙ joined_searches old (kept ∷ []) ∙ ap (λ (s : RememberedSearch). searches_of old ++ s ∷ []) (ap search_of is ∙ same ∙ sym (ap (λ (s : Option RememberedSearch). unwrap_or s hollow) whole)),
        )
        | Err _ ↦ λ e. e
      ] added

-- those led so far and those that are left are all
pub led_so_far : (rows : List (Bor KeptSearch)) (n : ℕ) (row : Bor KeptSearch) (so_far with_one : List RememberedSearch) → n < length rows → row ≡ get_or rows n row
    → so_far ++ map (λ r. search_of r.now) (drop n rows) ≡ map (λ r. search_of r.now) rows → with_one ≡ so_far ++ search_of row.now ∷ []
    → with_one ++ map (λ r. search_of r.now) (drop (n + 1) rows) ≡ map (λ r. search_of r.now) rows
led_so_far rows n row so_far with_one within is all more =
    ap (λ some. some ++ map (λ r. search_of r.now) (drop (n + 1) rows)) more
    ∙ append_assoc so_far (search_of row.now ∷ []) (map (λ r. search_of r.now) (drop (n + 1) rows))
    ∙ ap (λ (r : Bor KeptSearch). so_far ++ search_of r.now ∷ map (λ x. search_of x.now) (drop (n + 1) rows)) is
    ∙ ap (λ some. so_far ++ map (λ r. search_of r.now) some) (ap (λ k. get_or rows n row ∷ drop k rows) next ∙ sym (drop-cons rows n row within))
    ∙ all
  where
    next : n + 1 ≡ suc n
    next = omega arith

-- WHAT FOLLOWS of an answer
module _ {T E : Type 0} (r : Result T E) where
  pub if_ok : (A B : T → Type 0) → ((x : T) → A x → B x) → IfOk r A → IfOk r B
  if_ok A B follows = elim r as (λ t. IfOk t A → IfOk t B) [ Ok x ↦ follows x | Err _ ↦ λ e. e ]

  pub on_ok : (A B : Type 0) → (A → B) → OnOk r A → OnOk r B
  on_ok A B follows = elim r as (λ t. OnOk t A → OnOk t B) [ Ok _ ↦ follows | Err _ ↦ λ e. e ]

  -- rows stay right where one is added, and one goes for it or none
  pub one_more_right : (policy : Policy) (rows : List KeptSearch) → AreRight policy rows → (kept : KeptSearch) → IsRight policy kept → (o : Option KeptSearch) (new : List KeptSearch)
      → OnOk r (new ≡ rows_after o rows ++ kept ∷ []) → OnErr r (new ≡ rows) → AreRight policy new
  one_more_right policy rows right kept its o new =
      let left : AreRight policy (rows_after o rows) = stays o in
      elim r as (λ t. OnOk t (new ≡ rows_after o rows ++ kept ∷ []) → OnErr t (new ≡ rows) → AreRight policy new) [
        | Ok _ ↦ λ e _. subst (AreRight policy) (sym e) (right_joined policy (rows_after o rows) (kept ∷ []) left (its, tt))
        | Err _ ↦ λ _ e. subst (AreRight policy) (sym e) right
      ]
    where
      stays : (one : Option KeptSearch) → AreRight policy (rows_after one rows)
      stays None = right
      stays (Some gone) = right_filtered policy (is_not_at kept_key (kept_key gone)) rows right

-- REMEMBERED already, or not
module _ (limits : Limits) (host name : List ℕ) (rows : List RememberedSearch) where
  pub with_it_again : list_any (same_search host name) rows ≡ true → searched_again limits host name rows ≡ with_search limits host name rows
  with_it_again there = rw there refl

  pub with_it_first : list_any (same_search host name) rows ≡ false → searched_first limits host name rows ≡ with_search limits host name rows
  with_it_first new = rw new refl

-- rows stay right where one is made again, or can't be
pub again_right_either : (policy : Policy) (rows : List KeptSearch) → AreRight policy rows → IsApart kept_key rows → (host name : List ℕ) (limits : Limits) (key : Key) → Some key ≡ key_in (find (is_sought host name) rows)
    → {E : Type 0} (r : Result ℕ E) (new : List KeptSearch) → IfOk r (λ serial. new ≡ rows_again limits serial key rows) → OnErr r (new ≡ rows) → AreRight policy new
again_right_either policy rows right apart host name limits key found r new ok err =
    elim r as (λ t. IfOk t (λ serial. new ≡ rows_again limits serial key rows) → OnErr t (new ≡ rows) → AreRight policy new) [
      | Ok serial ↦ λ e _. subst (AreRight policy) (sym e) (again_stays_right policy rows right apart host name limits serial key found)
      | Err _ ↦ λ _ e. subst (AreRight policy) (sym e) right
    ] ok err
