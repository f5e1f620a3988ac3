-- What remembered searches lead to, one beside each.
use Rattle.std.proofs.Common.{◌≡◌, ◌<◌, ℕ, List, [], ◌∷◌, ◌++◌, Bool, true, false, ◌||◌, Option, Some, None, get_or, length, set, refl, sym, ap, ◌∙◌}
use Rattle.std.specs.Prelude.{filter_map, filter, map, if◌then◌else◌}
use Rattle.std.specs.List.{cons_option, count_by, list_any, position, remove}
use Rattle.std.proofs.Math.Seq.{map-set_same}
use Rattle.std.proofs.lemmas.List.{append-nil, get_or-map, map-append}
use Rattle.std.proofs.lemmas.List.Quantifiers.{position-Some}
use Rattle.std.proofs.lemmas.List.Sums.{length-filter}
use Rattle.indexmap.proofs.SetLemmas.{map-remove}
use Rattle.rows.proofs.RowLemmas.{change_first_none, find_none, remove_first_none}
use Rattle.pv_alias.specs.declared.lead.Lead.{Lead}
use Rattle.rule_desk.specs.declared.policy.Policy.{Policy}
use Rattle.gateway_state.specs.declared.limits.Limits.{Limits}
use Rattle.gateway_state.specs.declared.search.RememberedSearch.{RememberedSearch}
use Rattle.gateway_state.specs.Resolution.{is_real, lead_of, real_in}
use Rattle.gateway_state.specs.Searches.{grown_stale, leads_to, refreshed, same_search, searched_again}
use Rattle.gateway_state.specs.Variables.{search_name, search_names}
use Rattle.plain_rows.specs.SearchRows.{is_the, itself}

-- those that are there are the names that searches lead to
pub names_of_reals : (policy : Policy) (rows : List RememberedSearch) → filter_map itself (map (search_name policy) rows) ≡ search_names policy rows
names_of_reals policy [] = refl
names_of_reals policy (row ∷ rows) = ap (cons_option (search_name policy row)) (names_of_reals policy rows)

the_real : (lead : Option Lead) (name : List ℕ) → is_the name (real_in lead) ≡ is_real lead name
the_real None name = refl
the_real (Some lead) name = refl

-- a name is one of these exactly where a search leads to it
pub any_real_is_any_lead : (policy : Policy) (name : List ℕ) (rows : List RememberedSearch)
    → list_any (is_the name) (map (search_name policy) rows) ≡ list_any (leads_to policy name) rows
any_real_is_any_lead policy name [] = refl
any_real_is_any_lead policy name (row ∷ rows) =
    ap (λ (t : Bool). t || list_any (is_the name) (map (search_name policy) rows)) (the_real (lead_of policy row.host row.name) name)
    ∙ ap (λ (t : Bool). leads_to policy name row || t) (any_real_is_any_lead policy name rows)

-- a search that grew stale leads where it led
pub leads_of_grown : (policy : Policy) (rows : List RememberedSearch) → map (search_name policy) (map grown_stale rows) ≡ map (search_name policy) rows
leads_of_grown policy [] = refl
leads_of_grown policy (row ∷ rows) = ap (λ (names : List (Option (List ℕ))). search_name policy row ∷ names) (leads_of_grown policy rows)

-- what is removed with its search
pub leads_without_place : (policy : Policy) (rows : List RememberedSearch) (place : ℕ) → map (search_name policy) (remove rows place) ≡ remove (map (search_name policy) rows) place
leads_without_place policy rows place = map-remove (search_name policy) rows place

-- what stands beside a search is what it leads to
pub lead_at : (policy : Policy) (rows : List RememberedSearch) (reals : List (Option (List ℕ))) (place : ℕ) (row : RememberedSearch) (real : Option (List ℕ))
    → reals ≡ map (search_name policy) rows → place < length rows → row ≡ get_or rows place row → real ≡ get_or reals place real
    → real ≡ search_name policy row
lead_at policy rows reals place row real are within here beside =
    beside ∙ ap (λ (names : List (Option (List ℕ))). get_or names place real) are
    ∙ get_or-map (search_name policy) rows place row real within
    ∙ ap (search_name policy) (sym here)

-- a search that is made again leads where it led
pub leads_of_refreshed : (policy : Policy) (rows : List RememberedSearch) (place : ℕ) (row : RememberedSearch) → row ≡ get_or rows place row
    → map (search_name policy) (set rows place (refreshed row)) ≡ map (search_name policy) rows
leads_of_refreshed policy rows place row here =
    map-set_same (search_name policy) rows place (refreshed row) row (ap (search_name policy) here)

-- the place of a row is within the rows
pub place_is_within : (p : RememberedSearch → Bool) (rows : List RememberedSearch) (place : ℕ) → position p rows ≡ Some place → place < length rows
place_is_within p [] place is = cc
place_is_within p (row ∷ rows) place is = (position-Some p (row ∷ rows) place row is).0

-- what leads are with one search more
pub leads_with_one_more : (policy : Policy) (rows : List RememberedSearch) (row : RememberedSearch)
    → map (search_name policy) (rows ++ row ∷ []) ≡ map (search_name policy) rows ++ search_name policy row ∷ []
leads_with_one_more policy rows row = map-append (search_name policy) rows (row ∷ [])

-- how many rows pass
pub length_is_count : (p : RememberedSearch → Bool) (rows : List RememberedSearch) → length (filter p rows) ≡ count_by p rows
length_is_count p rows = length-filter p rows

-- where a search isn't remembered, nothing is made again
pub searched_again_none : (limits : Limits) (host name : List ℕ) (rows : List RememberedSearch) → position (same_search host name) rows ≡ None
    → searched_again limits host name rows ≡ rows
searched_again_none limits host name rows is =
    rw (remove_first_none (same_search host name) rows is, find_none (same_search host name) rows is, change_first_none (same_search host name) refreshed rows is)
    (either limits.makes_room)
  where
    either : (makes_room : Bool) → (if makes_room then rows ++ [] else rows) ≡ rows
    either true = append-nil rows
    either false = refl
