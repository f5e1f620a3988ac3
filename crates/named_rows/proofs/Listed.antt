-- Lists of keys by names and the like: what changes with a row, and which rows they give.
use Rattle.std.proofs.Common.{◌≡◌, ℕ, zero, suc, ◌<◌, ◌||◌, List, [], ◌∷◌, ◌++◌, Bool, true, false, cond, not, Some, None, map, length, get_or, append-nil, refl, sym, ap, subst, ◌∙◌, arith, true≢false}
use Rattle.std.specs.List.{filter, find, list_any, slice_get}
use Rattle.std.specs.Option.{option_map}
use Rattle.std.proofs.lemmas.List.Elements.{filter-append}
use Rattle.std.proofs.lemmas.Option.{slice_get-map, slice_get_within, get_or_from_slice_get}
use Rattle.rows.specs.Rows.{change_first}
use Rattle.row_index.specs.declared.key.Key.{Key}
use Rattle.row_index.specs.Lists.{is_key, is_not_key, listed, with_last, Changes}
use Rattle.row_index.specs.Rows.{same_key}
use Rattle.named_rows.specs.Indexes.{IsApart, AreListedBy, row_at, rows_at}
use Rattle.row_index.proofs.Keys.{same_key_itself}
use Rattle.named_rows.proofs.Keyed.{Each, each_is_found, fails_alone}
use Rattle.named_rows.proofs.Lists.{filters_swap, kept_changed, none_dropped}

module _ {V N : Type 0} (eq : N → N → Bool) (key : V → Key) where
  map-append_one : (rows : List V) (row : V) → map key (rows ++ row ∷ []) ≡ map key rows ++ key row ∷ []
  map-append_one [] row = refl
  map-append_one (first ∷ rows) row = ap (λ rest. key first ∷ rest) (map-append_one rows row)

  -- the keys of rows, without one key
  keys_without : (k : Key) (rows : List V) → filter (is_not_key k) (map key rows) ≡ map key (filter (λ row. not (same_key (key row) k)) rows)
  keys_without k [] = refl
  keys_without k (row ∷ rows) =
      elim (same_key (key row) k) as (λ t. cond (not t) (key row ∷ filter (is_not_key k) (map key rows)) (filter (is_not_key k) (map key rows)) ≡ map key (cond (not t) (row ∷ filter (λ r. not (same_key (key r) k)) rows) (filter (λ r. not (same_key (key r) k)) rows)))
      [ true ↦ keys_without k rows | false ↦ ap (λ rest. key row ∷ rest) (keys_without k rows) ]

  -- a key that no row has is the key of none that pass
  key_of_none : (k : Key) (test : V → Bool) (rows : List V) → list_any (λ row. same_key (key row) k) rows ≡ false → length (filter (is_key k) (map key (filter test rows))) ≡ 0
  key_of_none k test [] absent = refl
  key_of_none k test (row ∷ rows) absent =
      elim (same_key (key row) k) as (λ t. same_key (key row) k ≡ t → t || list_any (λ r. same_key (key r) k) rows ≡ false → length (filter (is_key k) (map key (filter test (row ∷ rows)))) ≡ 0) [
        | true ↦ λ here none. absurd (true≢false none)
        | false ↦ λ here none.
            let rest = key_of_none k test rows none in
            let others = filter (is_key k) (map key (filter test rows)) in
            elim (test row) as (λ t. length (filter (is_key k) (map key (cond t (row ∷ filter test rows) (filter test rows)))) ≡ 0)
            [ true ↦ ap (λ t. length (cond t (key row ∷ others) others)) here ∙ rest | false ↦ rest ]
      ] refl absent

  -- the same lists of each name
  pub listed_same : (test : N → V → Bool) (rows : List V) (old new : List (N × List Key)) → AreListedBy eq key test rows old → ((n : N) → listed eq new n ≡ listed eq old n) → AreListedBy eq key test rows new
  listed_same test rows old new holds same n = same n ∙ holds n

  -- such a key isn't listed
  pub unlisted : (test : N → V → Bool) (rows : List V) (lists : List (N × List Key)) (k : Key) (name : N) → AreListedBy eq key test rows lists → list_any (λ row. same_key (key row) k) rows ≡ false → length (filter (is_key k) (listed eq lists name)) ≡ 0
  unlisted test rows lists k name holds absent =
      ap (λ keys. length (filter (is_key k) keys)) (holds name) ∙ key_of_none k (test name) rows absent

  -- a row more, whose key is listed under its name
  pub listed_with_more : (test : N → V → Bool) (rows : List V) (row : V) (name : N) (old new : List (N × List Key)) → ((n : N) → test n row ≡ eq name n) → AreListedBy eq key test rows old → Changes eq name (with_last (key row)) old new → AreListedBy eq key test (rows ++ row ∷ []) new
  listed_with_more test rows row name old new is holds adds n =
      adds n ∙ rw (filter-append (test n) rows (row ∷ []), is n)
      (elim (eq name n) as (λ t. cond t (listed eq old n ++ key row ∷ []) (listed eq old n) ≡ map key (filter (test n) rows ++ cond t (row ∷ []) [])) [
        | true ↦ rw (map-append_one (filter (test n) rows) row) (ap (λ keys. keys ++ key row ∷ []) (holds n))
        | false ↦ rw (append-nil (filter (test n) rows)) (holds n)
      ])

  -- a key that was listed, and is listed no longer
  pub listed_undone : (test : N → V → Bool) (rows : List V) (k : Key) (name : N) (old some new : List (N × List Key)) → list_any (λ row. same_key (key row) k) rows ≡ false → AreListedBy eq key test rows old → Changes eq name (with_last k) old some → Changes eq name (filter (is_not_key k)) some new → AreListedBy eq key test rows new
  listed_undone test rows k name old some new absent holds adds removes n =
      removes n ∙ rw (adds n)
      (elim (eq name n) as (λ t. cond t (filter (is_not_key k) (cond t (listed eq old n ++ k ∷ []) (listed eq old n))) (cond t (listed eq old n ++ k ∷ []) (listed eq old n)) ≡ map key (filter (test n) rows)) [
        | true ↦ filter-append (is_not_key k) (listed eq old n) (k ∷ []) ∙ rw (same_key_itself k) (append-nil (filter (is_not_key k) (listed eq old n)))
            ∙ ap (filter (is_not_key k)) (holds n) ∙ keys_without k (filter (test n) rows)
            ∙ ap (map key) (filters_swap (λ r. not (same_key (key r) k)) (test n) rows ∙ ap (filter (test n)) (none_dropped (λ r. same_key (key r) k) rows absent))
        | false ↦ holds n
      ])

  -- a row removed, and its key from the list of its name
  pub listed_without : (test : N → V → Bool) (rows : List V) (row : V) (k : Key) (name : N) (old new : List (N × List Key)) → IsApart key rows → find (λ r. same_key (key r) k) rows ≡ Some row → ((n : N) → test n row ≡ eq name n) → AreListedBy eq key test rows old → Changes eq name (filter (is_not_key k)) old new → AreListedBy eq key test (filter (λ r. not (same_key (key r) k)) rows) new
  listed_without test rows row k name old new apart found is holds removes n =
      removes n ∙
      (elim (eq name n) as (λ t. eq name n ≡ t → cond t (filter (is_not_key k) (listed eq old n)) (listed eq old n) ≡ map key (filter (test n) (filter (λ r. not (same_key (key r) k)) rows))) [
        | true ↦ λ _. ap (filter (is_not_key k)) (holds n) ∙ keys_without k (filter (test n) rows) ∙ ap (map key) (filters_swap (λ r. not (same_key (key r) k)) (test n) rows)
        | false ↦ λ out. holds n ∙ ap (map key) (sym (fails_alone key k (test n) rows row apart found (is n ∙ out)))
      ] refl)

  -- a row changed in what is neither in its key nor in the test
  pub listed_changed : (test : N → V → Bool) (p : V → Bool) (f : V → V) (rows : List V) (lists : List (N × List Key)) → ((n : N) (row : V) → test n (f row) ≡ test n row) → ((row : V) → key (f row) ≡ key row) → AreListedBy eq key test rows lists → AreListedBy eq key test (change_first p f rows) lists
  listed_changed test p f rows lists same kept holds n = holds n ∙ sym (kept_changed p f (test n) key (same n) kept rows)

  each_kept : (P : V → Type 0) (q : V → Bool) (rows : List V) → Each P rows → Each P (filter q rows)
  each_kept P q [] each = tt
  each_kept P q (row ∷ rows) each =
      elim (q row) as (λ t. Each P (cond t (row ∷ filter q rows) (filter q rows))) [ true ↦ (each.0, each_kept P q rows each.1) | false ↦ each_kept P q rows each.1 ]

  each_at : (P : V → Type 0) (rows : List V) (n : ℕ) (d : V) → n < length rows → Each P rows → P (get_or rows n d)
  each_at P [] n d within each = absurd (omega arith)
  each_at P (row ∷ rows) zero d within each = each.0
  each_at P (row ∷ rows) (suc n) d within each = each_at P rows n d (omega arith) each.1

  nth_of_each : (rows some : List V) (n : ℕ) → Each (λ x. find (λ r. same_key (key r) (key x)) rows ≡ Some x) some → row_at key rows (slice_get (map key some) n) ≡ slice_get some n
  nth_of_each rows some n each =
      rw (slice_get-map key some n)
      (elim (slice_get some n) as (λ o. slice_get some n ≡ o → row_at key rows (option_map key o) ≡ o) [
        | None ↦ λ _. refl
        | Some x ↦ λ e. subst (λ y. find (λ r. same_key (key r) (key y)) rows ≡ Some y) (get_or_from_slice_get some n x x e) (each_at (λ y. find (λ r. same_key (key r) (key y)) rows ≡ Some y) some n x (slice_get_within some n x e) each)
      ] refl)

  -- the nth key of a name finds the nth row that passes the name's test
  pub nth_listed : (test : N → V → Bool) (rows : List V) (lists : List (N × List Key)) (name : N) (n : ℕ) → IsApart key rows → AreListedBy eq key test rows lists → row_at key rows (slice_get (listed eq lists name) n) ≡ slice_get (filter (test name) rows) n
  nth_listed test rows lists name n apart holds =
      rw (holds name) (nth_of_each rows (filter (test name) rows) n (each_kept _ (test name) rows (each_is_found key rows apart)))

  all_of_each : (rows some : List V) → Each (λ x. find (λ r. same_key (key r) (key x)) rows ≡ Some x) some → rows_at key rows (map key some) ≡ some
  all_of_each rows [] each = refl
  all_of_each rows (x ∷ some) each = rw each.0 (ap (λ rest. x ∷ rest) (all_of_each rows some each.1))

  -- the keys of a name find the rows that pass its test
  pub rows_listed : (test : N → V → Bool) (rows : List V) (lists : List (N × List Key)) (name : N) → IsApart key rows → AreListedBy eq key test rows lists → rows_at key rows (listed eq lists name) ≡ filter (test name) rows
  rows_listed test rows lists name apart holds =
      rw (holds name) (all_of_each rows (filter (test name) rows) (each_kept _ (test name) rows (each_is_found key rows apart)))
