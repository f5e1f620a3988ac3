-- The searches that go, and that those which stay lead where they led.
use Rattle.std.proofs.Common.{◌≡◌, ℕ, List, [], ◌∷◌, ◌++◌, length, Bool, true, false, cond, not, ◌||◌, Option, Some, None, refl, sym, ap, ◌∙◌}
use Rattle.std.specs.Prelude.{bytes_eq, filter, map, nat_le, slice_get}
use Rattle.std.specs.List.{cons_option, find, list_any}
use Rattle.std.proofs.lemmas.Bool.{and_from, and_parts, true≢false}
use Rattle.std.proofs.lemmas.List.{append-nil}
use Rattle.std.proofs.lemmas.List.Folds.{list_any-append}
use Rattle.std.proofs.lemmas.Slice.Eq.{bytes_eq-Decides}
use Rattle.rows.specs.Rows.{change_first, remove_first}
use Rattle.channel_table.specs.declared.sessions.Session.{Session}
use Rattle.named_rows.proofs.Lists.{found_passes}
use Rattle.pv_name.specs.Host.{lowercase, same_host}
use Rattle.rule_desk.specs.declared.policy.Policy.{Policy}
use Rattle.gateway_state.specs.declared.limits.Limits.{Limits}
use Rattle.gateway_state.specs.declared.search.RememberedSearch.{RememberedSearch}
use Rattle.gateway_state.specs.Clients.{search_left_by}
use Rattle.gateway_state.specs.Gateway.{Gateway}
use Rattle.gateway_state.specs.Searches.{grown_stale, has_its_share, is_fresh, is_from, is_stale, leads_to, left_by_channel, left_by_search, made_now, outworn, refreshed, same_search, with_search, without_search}
use Rattle.gateway_state.specs.Variables.{is_among, search_name, search_names}
use Rattle.gateway_state.proofs.AskedNames.{or_none, over}
use Rattle.gateway_state.proofs.RowTests.{any_changed}
use Rattle.gateway_state.proofs.SearchedNames.{searched_is_among}

-- ---- lists

-- some row passes as before one that was found went, or that one passes
any_removed : {A : Type 0} (test found : A → Bool) (rows : List A) (row : A) → find found rows ≡ Some row
    → list_any test rows ≡ (test row || list_any test (remove_first found rows))
any_removed test found [] row is = absurd cc
any_removed {A = A} test found (first ∷ rows) row is = by (found first) is (any_removed test found rows row)
  where
    by : (here : Bool) → cond here (Some first) (find found rows) ≡ Some row
        → (find found rows ≡ Some row → list_any test rows ≡ (test row || list_any test (remove_first found rows)))
        → (test first || list_any test rows) ≡ (test row || list_any test (cond here rows (first ∷ remove_first found rows)))
    by true is rest = let same : first ≡ row = cc in ap (λ (r : A). test r || list_any test rows) same
    by false is rest = ap (λ (t : Bool). test first || t) (rest is) ∙ over (test first) (test row) (list_any test (remove_first found rows))

-- some row passes as before the first that is found was moved behind the others, by a change that the test
-- doesn't see
any_moved : {A : Type 0} (test found : A → Bool) (change : A → A) (rows : List A) → ((row : A) → test (change row) ≡ test row)
    → list_any test (remove_first found rows ++ map change (cons_option (find found rows) [])) ≡ list_any test rows
any_moved test found change [] unseen = refl
any_moved test found change (row ∷ rows) unseen = by (found row) (any_moved test found change rows unseen)
  where
    behind : (a b : Bool) → (a || (b || false)) ≡ (b || a)
    behind true true = refl
    behind true false = refl
    behind false true = refl
    behind false false = refl

    by : (here : Bool) → list_any test (remove_first found rows ++ map change (cons_option (find found rows) [])) ≡ list_any test rows
        → list_any test (cond here rows (row ∷ remove_first found rows) ++ map change (cons_option (cond here (Some row) (find found rows)) []))
        ≡ (test row || list_any test rows)
    by true rest =
        list_any-append test rows (change row ∷ []) ∙ ap (λ (t : Bool). list_any test rows || (t || false)) (unseen row)
        ∙ behind (list_any test rows) (test row)
    by false rest = ap (λ (t : Bool). test row || t) rest

-- the first row that passes a test is the first that passes a stricter one, where it passes that
found_by_stricter : {A : Type 0} (test stricter : A → Bool) (rows : List A) (row : A) → find test rows ≡ Some row
    → ((other : A) → stricter other ≡ true → test other ≡ true) → stricter row ≡ true → find stricter rows ≡ Some row
found_by_stricter test stricter [] row is less passes = absurd cc
found_by_stricter test stricter (first ∷ rows) row is less passes =
    by (test first) (stricter first) refl refl is (λ later. found_by_stricter test stricter rows row later less passes)
  where
    by : (here there : Bool) → test first ≡ here → stricter first ≡ there → cond here (Some first) (find test rows) ≡ Some row
        → (find test rows ≡ Some row → find stricter rows ≡ Some row) → cond there (Some first) (find stricter rows) ≡ Some row
    by true true is_here is_there is rest = is
    by true false is_here is_there is rest = let same : first ≡ row = cc in absurd (true≢false (sym passes ∙ ap stricter (sym same) ∙ is_there))
    by false true is_here is_there is rest = absurd (true≢false (sym (less first is_there) ∙ is_here))
    by false false is_here is_there is rest = rest is

-- ---- searches that are the same

same_as_itself : (row : RememberedSearch) → same_search row.host row.name row ≡ true
same_as_itself row =
    and_from (bytes_eq row.name row.name) (same_host row.host row.host) ((bytes_eq-Decides row.name row.name).1 refl)
    ((bytes_eq-Decides (lowercase row.host) (lowercase row.host)).1 refl)

-- a search that is the same as one of a host is the host's too
from_same : (host : List ℕ) (row other : RememberedSearch) → is_from host row ≡ true → same_search row.host row.name other ≡ true → is_from host other ≡ true
from_same host row other from same =
    let parts = and_parts (bytes_eq other.name row.name) (same_host other.host row.host) same in
    (bytes_eq-Decides (lowercase other.host) (lowercase host)).1
    ((bytes_eq-Decides (lowercase other.host) (lowercase row.host)).0 parts.1 ∙ (bytes_eq-Decides (lowercase row.host) (lowercase host)).0 from)

same_by_same : (host name : List ℕ) (row other : RememberedSearch) → same_search host name row ≡ true → same_search row.host row.name other ≡ true → same_search host name other ≡ true
same_by_same host name row other first second =
    let here = and_parts (bytes_eq row.name name) (same_host row.host host) first in
    let there = and_parts (bytes_eq other.name row.name) (same_host other.host row.host) second in
    and_from (bytes_eq other.name name) (same_host other.host host)
    ((bytes_eq-Decides other.name name).1 ((bytes_eq-Decides other.name row.name).0 there.0 ∙ (bytes_eq-Decides row.name name).0 here.0))
    (from_same host row other here.1 second)

-- ---- the search that goes

-- it is remembered, and the first of its host and name
abbrev pub IsFirst : List RememberedSearch → Option RememberedSearch → Type 0
IsFirst rows None = Unit {0}
IsFirst rows (Some row) = find (same_search row.host row.name) rows ≡ Some row

from_first : (host : List ℕ) (rows : List RememberedSearch) → IsFirst rows (find (is_from host) rows)
from_first host rows = by (find (is_from host) rows) refl
  where
    by : (found : Option RememberedSearch) → find (is_from host) rows ≡ found → IsFirst rows found
    by None is = record {}
    by (Some row) is =
        found_by_stricter (is_from host) (same_search row.host row.name) rows row is
        (λ other same. from_same host row other (found_passes (is_from host) rows row is) same) (same_as_itself row)

same_first : (host name : List ℕ) (rows : List RememberedSearch) → IsFirst rows (find (same_search host name) rows)
same_first host name rows = by (find (same_search host name) rows) refl
  where
    by : (found : Option RememberedSearch) → find (same_search host name) rows ≡ found → IsFirst rows found
    by None is = record {}
    by (Some row) is =
        found_by_stricter (same_search host name) (same_search row.host row.name) rows row is
        (λ other same. same_by_same host name row other (found_passes (same_search host name) rows row is) same) (same_as_itself row)

oldest_first : (rows : List RememberedSearch) → IsFirst rows (slice_get rows 0)
oldest_first [] = record {}
oldest_first (row ∷ rows) = rw (same_as_itself row) refl

pub outworn_first : (limits : Limits) (host : List ℕ) (rows : List RememberedSearch) → IsFirst rows (outworn limits host rows)
outworn_first limits host rows = by (has_its_share limits host rows) (nat_le limits.searches (length rows))
  where
    by : (share full : Bool) → IsFirst rows (cond share (find (is_from host) rows) (cond full (slice_get rows 0) None))
    by true full = from_first host rows
    by false true = oldest_first rows
    by false false = record {}

pub left_by_search_first : (limits : Limits) (host name : List ℕ) (rows : List RememberedSearch) → IsFirst rows (left_by_search limits host name rows)
left_by_search_first limits host name rows =
    elim (list_any (same_search host name) rows || not limits.makes_room) as (λ t. IsFirst rows (cond t None (outworn limits host rows)))
    [ true ↦ record {} | false ↦ outworn_first limits host rows ]

pub left_by_channel_first : (limits : Limits) (host name : List ℕ) (rows : List RememberedSearch) → IsFirst rows (left_by_channel limits host name rows)
left_by_channel_first limits host name rows =
    elim limits.makes_room as (λ t. IsFirst rows (cond t (find (same_search host name) rows) None))
    [ true ↦ same_first host name rows | false ↦ record {} ]

pub search_left_by_first : (session : Option Session) (name : List ℕ) (w : Gateway) → IsFirst w.searches (search_left_by session name w)
search_left_by_first None name w = record {}
search_left_by_first (Some row) name w = left_by_channel_first w.limits row.peer name w.searches

-- ---- what the others lead to

-- a name that the search which goes doesn't lead to is led to as before
pub left_leads : (policy : Policy) (left : Option RememberedSearch) (rows : List RememberedSearch) (x : List ℕ) → IsFirst rows left
    → is_among (search_names policy (cons_option left [])) x ≡ false
    → list_any (leads_to policy x) (without_search left rows) ≡ list_any (leads_to policy x) rows
left_leads policy None rows x first none = refl
left_leads policy (Some row) rows x first none =
    let unled : leads_to policy x row ≡ false = or_none (leads_to policy x row) ∙ searched_is_among policy x (row ∷ []) ∙ none in
    sym (any_removed (leads_to policy x) (same_search row.host row.name) rows row first
    ∙ ap (λ (t : Bool). t || list_any (leads_to policy x) (remove_first (same_search row.host row.name) rows)) unled)

-- the search that is remembered for the first time, where one is
abbrev pub added_by_search : Limits → List ℕ → List ℕ → List RememberedSearch → List RememberedSearch
added_by_search limits host name rows =
    cond (list_any (same_search host name) rows) []
    (cond limits.makes_room (made_now host name ∷ []) (cond (nat_le limits.searches (length rows)) [] (made_now host name ∷ [])))

-- once a host searched, such a name is led to as before, or by the new search
pub searched_leads : (policy : Policy) (limits : Limits) (host name : List ℕ) (rows : List RememberedSearch) (x : List ℕ)
    → is_among (search_names policy (cons_option (left_by_search limits host name rows) [])) x ≡ false
    → list_any (leads_to policy x) (with_search limits host name rows) ≡ list_any (leads_to policy x) (rows ++ added_by_search limits host name rows)
searched_leads policy limits host name rows x none =
    by (list_any (same_search host name) rows) limits.makes_room (nat_le limits.searches (length rows)) none
  where
    same : RememberedSearch → Bool
    same = same_search host name

    leads : RememberedSearch → Bool
    leads = leads_to policy x

    new : List RememberedSearch
    new = made_now host name ∷ []

    left : Option RememberedSearch
    left = outworn limits host rows

    by : (there room full : Bool) → is_among (search_names policy (cons_option (cond (there || not room) None left) [])) x ≡ false
        → list_any leads
        (cond there (cond room (remove_first same rows ++ map refreshed (cons_option (find same rows) [])) (change_first same refreshed rows))
        (cond room (without_search left rows ++ new) (cond full rows (rows ++ new))))
        ≡ list_any leads (rows ++ cond there [] (cond room new (cond full [] new)))
    by true true full none = any_moved leads same refreshed rows (λ row. refl) ∙ ap (list_any leads) (sym (append-nil rows))
    by true false full none = any_changed leads same refreshed rows (λ row. refl) ∙ ap (list_any leads) (sym (append-nil rows))
    by false true full none =
        list_any-append leads (without_search left rows) new
        ∙ ap (λ (t : Bool). t || list_any leads new) (left_leads policy left rows x (outworn_first limits host rows) none)
        ∙ sym (list_any-append leads rows new)
    by false false true none = ap (list_any leads) (sym (append-nil rows))
    by false false false none = refl

-- ---- as time passes

-- what searches lead to doesn't depend on when they were made
pub grown_stale_names : (policy : Policy) (rows : List RememberedSearch) → search_names policy (map grown_stale rows) ≡ search_names policy rows
grown_stale_names policy [] = refl
grown_stale_names policy (row ∷ rows) = ap (λ (names : List (List ℕ)). cons_option (search_name policy row) names) (grown_stale_names policy rows)

stale_or_fresh : (policy : Policy) (rows : List RememberedSearch) (x : List ℕ) → list_any (leads_to policy x) rows
    ≡ (list_any (leads_to policy x) (filter is_stale rows) || list_any (leads_to policy x) (map grown_stale (filter is_fresh rows)))
stale_or_fresh policy [] x = refl
stale_or_fresh policy (row ∷ rows) x = by row.fresh (stale_or_fresh policy rows x)
  where
    leads : RememberedSearch → Bool
    leads = leads_to policy x

    together : (a b c : Bool) → (a || (b || c)) ≡ ((a || b) || c)
    together true b c = refl
    together false b c = refl

    by : (fresh : Bool) → list_any leads rows ≡ (list_any leads (filter is_stale rows) || list_any leads (map grown_stale (filter is_fresh rows)))
        → (leads row || list_any leads rows)
        ≡ (list_any leads (cond (not fresh) (row ∷ filter is_stale rows) (filter is_stale rows))
        || list_any leads (map grown_stale (cond fresh (row ∷ filter is_fresh rows) (filter is_fresh rows))))
    by true rest =
        ap (λ (t : Bool). leads row || t) rest
        ∙ over (leads row) (list_any leads (filter is_stale rows)) (list_any leads (map grown_stale (filter is_fresh rows)))
    by false rest =
        ap (λ (t : Bool). leads row || t) rest
        ∙ together (leads row) (list_any leads (filter is_stale rows)) (list_any leads (map grown_stale (filter is_fresh rows)))

-- a name that no stale search leads to is led to as before, once those are forgotten
pub fresh_leads : (policy : Policy) (rows : List RememberedSearch) (x : List ℕ) → is_among (search_names policy (filter is_stale rows)) x ≡ false
    → list_any (leads_to policy x) (map grown_stale (filter is_fresh rows)) ≡ list_any (leads_to policy x) rows
fresh_leads policy rows x none =
    sym (stale_or_fresh policy rows x
    ∙ ap (λ (t : Bool). t || list_any (leads_to policy x) (map grown_stale (filter is_fresh rows))) (searched_is_among policy x (filter is_stale rows) ∙ none))
