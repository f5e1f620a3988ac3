-- Searches listed by their texts: what changes with a row, and what the lists find.
use Rattle.std.proofs.Common.{◌≡◌, ℕ, zero, suc, List, [], ◌∷◌, Bool, true, false, cond, not, ◌&&◌, ◌==◌, nat_lt, Option, Some, None, map, length, append-nil, arith, refl, sym, ap, subst, ◌∙◌}
use Rattle.std.specs.Prelude.{bytes_eq, slice_get, option_map}
use Rattle.std.specs.List.{filter, find, list_any}
use Rattle.std.proofs.lemmas.Bool.{lt-ltb, ne_eqb}
use Rattle.std.proofs.lemmas.List.{length-map}
use Rattle.std.proofs.lemmas.List.Elements.{filter-append}
use Rattle.row_index.specs.declared.key.Key.{Key}
use Rattle.row_index.specs.Lists.{AddsTo, RemovesFrom, SameLists}
use Rattle.named_rows.specs.Indexes.{IsApart, is_at, is_not_at}
use Rattle.named_rows.proofs.Keyed.{Each, each_is_found, fails_alone}
use Rattle.named_rows.proofs.Listed.{listed_changed, listed_same, listed_undone, listed_with_more, listed_without}
use Rattle.named_rows.proofs.Lists.{any_where_some}
use Rattle.rows.specs.Rows.{change_first}
use Rattle.state_tables.specs.declared.kept.KeptSearch.{KeptSearch}
use Rattle.state_tables.specs.declared.search_lists.SearchLists.{SearchLists}
use Rattle.state_tables.specs.Kept.{AddsToText, AddsUnder, AreInLists, AreUnder, KeepsLists, KeepsUnder, Lists, RemovesFromText, Unlists, is_by, is_by_found, is_led, is_named, is_owned, is_sought, is_text, kept_key, key_in}

-- the row of a key goes off the list of its text
abbrev pub RemovesUnder : (List ℕ → KeptSearch → Bool) → KeptSearch → List (List ℕ × List Key) → List (List ℕ × List Key) → Type 0
RemovesUnder test kept old new =
    (rows : List KeptSearch) → IsApart kept_key rows → find (is_at kept_key (kept_key kept)) rows ≡ Some kept
    → AreUnder test rows old → AreUnder test (filter (is_not_at kept_key (kept_key kept)) rows) new

module _ (test : List ℕ → KeptSearch → Bool) (kept : KeptSearch) where
  pub kept_same : (old new : List (List ℕ × List Key)) → SameLists old new → KeepsUnder test kept old new
  kept_same old new same = λ rows fresh holds. listed_same bytes_eq kept_key test rows old new holds same

  module _ (text : List ℕ) (is : (n : List ℕ) → test n kept ≡ bytes_eq text n) where
    pub added : (old new : List (List ℕ × List Key)) → AddsTo text (kept_key kept) old new → AddsUnder test kept old new
    added old new adds = λ rows fresh holds. listed_with_more bytes_eq kept_key test rows kept text old new is holds adds

    pub added_and_removed : (old some new : List (List ℕ × List Key)) → AddsTo text (kept_key kept) old some → RemovesFrom text (kept_key kept) some new → KeepsUnder test kept old new
    added_and_removed old some new adds removes = λ rows fresh holds. listed_undone bytes_eq kept_key test rows (kept_key kept) text old some new fresh holds adds removes

    pub removed : (old new : List (List ℕ × List Key)) → RemovesFrom text (kept_key kept) old new → RemovesUnder test kept old new
    removed old new removes = λ rows apart found holds. listed_without bytes_eq kept_key test rows kept (kept_key kept) text old new apart found is holds removes

  -- a row that has no such text is listed nowhere
  module _ (nowhere : (n : List ℕ) → test n kept ≡ false) where
    added_nowhere : (lists : List (List ℕ × List Key)) → AddsUnder test kept lists lists
    added_nowhere lists = λ rows fresh holds n.
        holds n ∙ sym (ap (map kept_key) (filter-append (test n) rows (kept ∷ []) ∙ rw (nowhere n) (append-nil (filter (test n) rows))))

    removed_nowhere : (lists : List (List ℕ × List Key)) → RemovesUnder test kept lists lists
    removed_nowhere lists = λ rows apart found holds n.
        holds n ∙ ap (map kept_key) (sym (fails_alone kept_key (kept_key kept) (test n) rows kept apart found (nowhere n)))

-- the real name of a row, if it leads to any
led_added : (kept : KeptSearch) (real : Option (List ℕ)) (old new : List (List ℕ × List Key)) → kept.real ≡ real → AddsToText real (kept_key kept) old new → AddsUnder is_led kept old new
led_added kept None old new e same =
    subst (AddsUnder is_led kept old) (sym same) (added_nowhere is_led kept (λ n. ap (λ r. is_text r n) e) old)
led_added kept (Some text) old new e adds = added is_led kept text (λ n. ap (λ r. is_text r n) e) old new adds

pub real_added : (kept : KeptSearch) (old new : List (List ℕ × List Key)) → AddsToText kept.real (kept_key kept) old new → AddsUnder is_led kept old new
real_added kept old new adds = led_added kept kept.real old new refl adds

led_removed : (kept : KeptSearch) (real : Option (List ℕ)) (old new : List (List ℕ × List Key)) → kept.real ≡ real → RemovesFromText real (kept_key kept) old new → RemovesUnder is_led kept old new
led_removed kept None old new e same =
    subst (RemovesUnder is_led kept old) (sym same) (removed_nowhere is_led kept (λ n. ap (λ r. is_text r n) e) old)
led_removed kept (Some text) old new e removes = removed is_led kept text (λ n. ap (λ r. is_text r n) e) old new removes

-- all three lists
module _ (kept : KeptSearch) (old new : SearchLists) where
  pub all_added : AddsUnder is_named kept old.names new.names → AddsUnder is_owned kept old.hosts new.hosts → AddsUnder is_led kept old.reals new.reals → Lists kept old new
  all_added names hosts reals = λ rows fresh holds. record {
    names = names rows fresh holds.names;
    hosts = hosts rows fresh holds.hosts;
    reals = reals rows fresh holds.reals;
  }

  pub all_kept : KeepsUnder is_named kept old.names new.names → KeepsUnder is_owned kept old.hosts new.hosts → KeepsUnder is_led kept old.reals new.reals → KeepsLists kept old new
  all_kept names hosts reals = λ rows fresh holds. record {
    names = names rows fresh holds.names;
    hosts = hosts rows fresh holds.hosts;
    reals = reals rows fresh holds.reals;
  }

  pub all_removed : RemovesFrom kept.name (kept_key kept) old.names new.names → RemovesFrom kept.owner (kept_key kept) old.hosts new.hosts → RemovesFromText kept.real (kept_key kept) old.reals new.reals → Unlists kept old new
  all_removed names hosts reals = λ rows apart found holds. record {
    names = removed is_named kept kept.name (λ n. refl) old.names new.names names rows apart found holds.names;
    hosts = removed is_owned kept kept.owner (λ n. refl) old.hosts new.hosts hosts rows apart found holds.hosts;
    reals = led_removed kept kept.real old.reals new.reals refl reals rows apart found holds.reals;
  }

-- a row changed in its search alone
pub lists_changed : (p : KeptSearch → Bool) (f : KeptSearch → KeptSearch) (rows : List KeptSearch) (lists : SearchLists)
    → ((kept : KeptSearch) → f kept ≡ record kept { search = (f kept).search })
    → AreInLists rows lists → AreInLists (change_first p f rows) lists
lists_changed p f rows lists search holds = record {
  names = listed_changed bytes_eq kept_key is_named p f rows lists.names (λ n row. ap (is_named n) (search row)) (λ row. ap kept_key (search row)) holds.names;
  hosts = listed_changed bytes_eq kept_key is_owned p f rows lists.hosts (λ n row. ap (is_owned n) (search row)) (λ row. ap kept_key (search row)) holds.hosts;
  reals = listed_changed bytes_eq kept_key is_led p f rows lists.reals (λ n row. ap (is_led n) (search row)) (λ row. ap kept_key (search row)) holds.reals;
}

-- WHAT THE LISTS FIND

find_filter : (p q : KeptSearch → Bool) (rows : List KeptSearch) → find p (filter q rows) ≡ find (λ row. q row && p row) rows
find_filter p q [] = refl
find_filter p q (row ∷ rows) =
    elim (q row) as (λ t. find p (cond t (row ∷ filter q rows) (filter q rows)) ≡ cond (t && p row) (Some row) (find (λ r. q r && p r) rows)) [
      | true ↦ ap (cond (p row) (Some row)) (find_filter p q rows)
      | false ↦ find_filter p q rows
    ]

each_kept : (P : KeptSearch → Type 0) (q : KeptSearch → Bool) (rows : List KeptSearch) → Each P rows → Each P (filter q rows)
each_kept P q [] each = tt
each_kept P q (row ∷ rows) each =
    elim (q row) as (λ t. Each P (cond t (row ∷ filter q rows) (filter q rows))) [ true ↦ (each.0, each_kept P q rows each.1) | false ↦ each_kept P q rows each.1 ]

found_by_keys : (host : List ℕ) (rows some : List KeptSearch) → Each (λ x. find (is_at kept_key (kept_key x)) rows ≡ Some x) some
    → find (λ key. is_by_found host (find (is_at kept_key key) rows)) (map kept_key some) ≡ key_in (find (is_by host) some)
found_by_keys host rows [] each = refl
found_by_keys host rows (x ∷ some) each =
    rw each.0
    (elim (is_by host x) as (λ t. cond t (Some (kept_key x)) (find (λ key. is_by_found host (find (is_at kept_key key) rows)) (map kept_key some)) ≡ option_map kept_key (cond t (Some x) (find (is_by host) some)))
    [ true ↦ refl | false ↦ found_by_keys host rows some each.1 ])

-- the first search for a name that is by the host
pub sought_by_keys : (host name : List ℕ) (rows : List KeptSearch) → IsApart kept_key rows
    → find (λ key. is_by_found host (find (is_at kept_key key) rows)) (map kept_key (filter (is_named name) rows)) ≡ key_in (find (is_sought host name) rows)
sought_by_keys host name rows apart =
    found_by_keys host rows (filter (is_named name) rows) (each_kept (λ x. find (is_at kept_key (kept_key x)) rows ≡ Some x) (is_named name) rows (each_is_found kept_key rows apart))
    ∙ ap key_in (find_filter (is_by host) (is_named name) rows)

-- the first that passes
pub first_listed : (q : KeptSearch → Bool) (rows : List KeptSearch) → slice_get (map kept_key (filter q rows)) 0 ≡ key_in (find q rows)
first_listed q [] = refl
first_listed q (row ∷ rows) =
    elim (q row) as (λ t. slice_get (map kept_key (cond t (row ∷ filter q rows) (filter q rows))) 0 ≡ option_map kept_key (cond t (Some row) (find q rows)))
    [ true ↦ refl | false ↦ first_listed q rows ]

pub count_listed : (q : KeptSearch → Bool) (rows : List KeptSearch) → length (map kept_key (filter q rows)) ≡ length (filter q rows)
count_listed q rows = length-map (filter q rows) kept_key

some_where : (n : ℕ) → not (n == 0) ≡ nat_lt 0 n
some_where zero = refl
some_where (suc n) = ap not (ne_eqb (suc n) 0 (omega arith)) ∙ sym (lt-ltb 0 (suc n) (omega arith))

-- some row passes where a key is listed
pub any_listed : (q : KeptSearch → Bool) (rows : List KeptSearch) → not (length (map kept_key (filter q rows)) == 0) ≡ list_any q rows
any_listed q rows =
    ap (λ n. not (n == 0)) (count_listed q rows) ∙ some_where (length (filter q rows)) ∙ any_where_some q rows

-- all keys are those of one owner
pub all_owned : (rows : List KeptSearch) → filter (λ row. (kept_key row).owner == 0) rows ≡ rows
all_owned [] = refl
all_owned (row ∷ rows) = ap (λ rest. row ∷ rest) (all_owned rows)
