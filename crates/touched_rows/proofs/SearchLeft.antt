-- A search that goes, as one more is remembered or a channel opens on its name: its variable's link goes where nothing
-- else wants it, and nobody else is told anything.
use Rattle.std.proofs.Common.{◌≡◌, ℕ, List, [], ◌∷◌, ◌++◌, length, Bool, true, false, cond, leb, ◌||◌, Option, Some, None, refl, sym, ap, ◌∙◌}
use Rattle.std.specs.Prelude.{bytes_eq, slice_get}
use Rattle.std.specs.List.{find, list_any}
use Rattle.std.proofs.lemmas.Bool.{and_from, and_parts, true≢false}
use Rattle.std.proofs.lemmas.List.Folds.{list_any-append}
use Rattle.std.proofs.lemmas.Slice.Eq.{bytes_eq-Decides}
use Rattle.pv_name.specs.Host.{lowercase, same_host}
use Rattle.rows.specs.Rows.{remove_first}
use Rattle.rule_desk.specs.declared.policy.Policy.{Policy}
use Rattle.gateway_state.specs.declared.limits.Limits.{Limits}
use Rattle.gateway_state.specs.declared.search.RememberedSearch.{RememberedSearch}
use Rattle.gateway_state.specs.Gateway.{Gateway}
use Rattle.gateway_state.specs.Searches.{has_its_share, is_from, leads_to, left_by_channel, outworn, same_search, without_search}
use Rattle.gateway_state.specs.Settled.{HasCidsApart, IsSettled}
use Rattle.gateway_state.specs.Step.{consequences}
use Rattle.gateway_state.specs.Variables.{is_among, search_names}
use Rattle.gateway_state.proofs.SearchedNames.{searched_is_among}
use Rattle.gateway_state.proofs.SettledSteps.{settled_stays}
use Rattle.touched_rows.specs.Touches.{consequences_of, left_touches}
use Rattle.touched_rows.proofs.Swept.{told_after_forgetting}
use Rattle.touched_rows.proofs.TouchedAlone.{found_passes}
use Rattle.touched_rows.proofs.WantedLinks.{neither}

-- ---- the row that goes is the one that was found

-- where all that the one test passes the other does, the first that the one passes is the first that the other does
pub any_without : {A : Type 0} (test sought found : A → Bool) (rows : List A) (row : A) → find found rows ≡ Some row → ((x : A) → sought x ≡ true → found x ≡ true)
    → sought row ≡ true → test row ≡ false → list_any test (remove_first sought rows) ≡ list_any test rows
any_without test sought found [] row is alike itself fails = refl
any_without {A = A} test sought found (first ∷ rows) row is alike itself fails =
    by (found first) (sought first) refl refl is (λ later. any_without test sought found rows row later alike itself fails)
  where
    by : (here there : Bool) → found first ≡ here → sought first ≡ there → cond here (Some first) (find found rows) ≡ Some row
        → (find found rows ≡ Some row → list_any test (remove_first sought rows) ≡ list_any test rows)
        → list_any test (cond there rows (first ∷ remove_first sought rows)) ≡ (test first || list_any test rows)
    by true true is_found is_sought is rest =
        let same : first ≡ row = cc in
        sym (ap (λ (t : Bool). t || list_any test rows) (ap test same ∙ fails))
    by true false is_found is_sought is rest =
        let same : first ≡ row = cc in
        absurd (true≢false (sym (ap sought same ∙ itself) ∙ is_sought))
    by false true is_found is_sought is rest = absurd (true≢false (sym (alike first is_sought) ∙ is_found))
    by false false is_found is_sought is rest = ap (λ (t : Bool). test first || t) (rest is)

-- the first row of a list
first_found : {A : Type 0} (rows : List A) (row : A) → slice_get rows 0 ≡ Some row → find (λ _. true) rows ≡ Some row
first_found [] row is = is
first_found (first ∷ rows) row is = is

-- the row is the first that passes a test, which all rows for the same host and name pass with it
pub record IsOneOf (rows : List RememberedSearch) (row : RememberedSearch) : Type 0 where
  pub passes : RememberedSearch → Bool
  pub first : find passes rows ≡ Some row
  pub alike : (x : RememberedSearch) → same_search row.host row.name x ≡ true → passes x ≡ true

same_hosts : (a b c : List ℕ) → same_host a b ≡ true → same_host b c ≡ true → same_host a c ≡ true
same_hosts a b c one two =
    (bytes_eq-Decides (lowercase a) (lowercase c)).1 ((bytes_eq-Decides (lowercase a) (lowercase b)).0 one ∙ (bytes_eq-Decides (lowercase b) (lowercase c)).0 two)

itself_sought : (row : RememberedSearch) → same_search row.host row.name row ≡ true
itself_sought row =
    and_from (bytes_eq row.name row.name) (same_host row.host row.host) ((bytes_eq-Decides row.name row.name).1 refl) ((bytes_eq-Decides (lowercase row.host) (lowercase row.host)).1 refl)

-- by a host, whatever the name
one_of_host : (host : List ℕ) (rows : List RememberedSearch) (row : RememberedSearch) → find (is_from host) rows ≡ Some row → IsOneOf rows row
one_of_host host rows row is = record {
  passes = is_from host;
  first = is;
  alike = λ x same.
      same_hosts x.host row.host host (and_parts (bytes_eq x.name row.name) (same_host x.host row.host) same).1 (found_passes (is_from host) rows row is);
}

-- by a host and a name
one_of_search : (host name : List ℕ) (rows : List RememberedSearch) (row : RememberedSearch) → find (same_search host name) rows ≡ Some row → IsOneOf rows row
one_of_search host name rows row is = record {
  passes = same_search host name;
  first = is;
  alike = λ x same.
      let there = and_parts (bytes_eq x.name row.name) (same_host x.host row.host) same in
      let here = and_parts (bytes_eq row.name name) (same_host row.host host) (found_passes (same_search host name) rows row is) in
      and_from (bytes_eq x.name name) (same_host x.host host)
      ((bytes_eq-Decides x.name name).1 ((bytes_eq-Decides x.name row.name).0 there.0 ∙ (bytes_eq-Decides row.name name).0 here.0))
      (same_hosts x.host row.host host there.1 here.1);
}

one_of_oldest : (rows : List RememberedSearch) (row : RememberedSearch) → slice_get rows 0 ≡ Some row → IsOneOf rows row
one_of_oldest rows row is = record { passes = λ _. true; first = first_found rows row is; alike = λ x same. refl }

pub outworn_is_one : (limits : Limits) (host : List ℕ) (rows : List RememberedSearch) (row : RememberedSearch) → outworn limits host rows ≡ Some row → IsOneOf rows row
outworn_is_one limits host rows row is = by (has_its_share limits host rows) (leb limits.searches (length rows)) is
  where
    by : (share full : Bool) → cond share (find (is_from host) rows) (cond full (slice_get rows 0) None) ≡ Some row → IsOneOf rows row
    by true full is = one_of_host host rows row is
    by false true is = one_of_oldest rows row is
    by false false is = absurd cc

pub left_by_channel_is_one : (limits : Limits) (host name : List ℕ) (rows : List RememberedSearch) (row : RememberedSearch) → left_by_channel limits host name rows ≡ Some row → IsOneOf rows row
left_by_channel_is_one limits host name rows row is = by limits.makes_room is
  where
    by : (room : Bool) → cond room (find (same_search host name) rows) None ≡ Some row → IsOneOf rows row
    by true is = one_of_search host name rows row is
    by false is = absurd cc

-- ---- what searches lead to without it

-- another variable than the row's
pub leads_without : (policy : Policy) (name : List ℕ) (rows : List RememberedSearch) (row : RememberedSearch) → IsOneOf rows row → is_among (search_names policy (row ∷ [])) name ≡ false
    → list_any (leads_to policy name) (without_search (Some row) rows) ≡ list_any (leads_to policy name) rows
leads_without policy name rows row one none =
    any_without (leads_to policy name) (same_search row.host row.name) one.passes rows row one.first one.alike (itself_sought row)
    (neither (leads_to policy name row) false (searched_is_among policy name (row ∷ []) ∙ none)).0

-- ---- what follows

module _ (w : Gateway) (settled : IsSettled w) (order : HasCidsApart w) where
  -- a search goes
  pub told_after_leaving : (gone : Option RememberedSearch) → ((row : RememberedSearch) → gone ≡ Some row → IsOneOf w.searches row)
      → consequences (record w { searches = without_search gone w.searches }) ≡ consequences_of (left_touches w.policy gone) (record w { searches = without_search gone w.searches })
  told_after_leaving None one = settled_stays w settled
  told_after_leaving (Some row) one =
      told_after_forgetting w settled order (without_search (Some row) w.searches) (search_names w.policy (row ∷ []))
      (λ name none. leads_without w.policy name w.searches row (one row refl) none)

-- it goes for another, which is there already
pub told_after_replacing : (w : Gateway) (rows : List RememberedSearch) (new : RememberedSearch) → IsSettled (record w { searches = rows ++ new ∷ [] }) → HasCidsApart w
    → (gone : Option RememberedSearch) → ((row : RememberedSearch) → gone ≡ Some row → IsOneOf rows row)
    → consequences (record w { searches = without_search gone rows ++ new ∷ [] }) ≡ consequences_of (left_touches w.policy gone) (record w { searches = without_search gone rows ++ new ∷ [] })
told_after_replacing w rows new settled order None one = settled_stays (record w { searches = rows ++ new ∷ [] }) settled
told_after_replacing w rows new settled order (Some row) one =
    told_after_forgetting (record w { searches = rows ++ new ∷ [] }) settled order (without_search (Some row) rows ++ new ∷ []) (search_names w.policy (row ∷ []))
    (λ name none.
    list_any-append (leads_to w.policy name) (without_search (Some row) rows) (new ∷ [])
    ∙ ap (λ (t : Bool). t || list_any (leads_to w.policy name) (new ∷ [])) (leads_without w.policy name rows row (one row refl) none)
    ∙ sym (list_any-append (leads_to w.policy name) rows (new ∷ [])))
