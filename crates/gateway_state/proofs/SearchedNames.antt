-- What searches lead to.
use Rattle.std.proofs.Common.{◌≡◌, ℕ, List, [], ◌∷◌, ◌++◌, Bool, ◌||◌, Option, Some, None, refl, ap}
use Rattle.std.specs.List.{cons_option, list_any}
use Rattle.pv_alias.specs.declared.lead.Lead.{Lead}
use Rattle.rule_desk.specs.declared.policy.Policy.{Policy}
use Rattle.gateway_state.specs.declared.search.RememberedSearch.{RememberedSearch}
use Rattle.gateway_state.specs.Resolution.{is_real, lead_of, real_in}
use Rattle.gateway_state.specs.Searches.{leads_to}
use Rattle.gateway_state.specs.Variables.{is_among, search_name, search_names}

-- a search leads to a real name exactly where that is among the names that searches lead to
pub searched_is_among : (policy : Policy) (name : List ℕ) (rows : List RememberedSearch) → list_any (leads_to policy name) rows ≡ is_among (search_names policy rows) name
searched_is_among policy name [] = refl
searched_is_among policy name (row ∷ rows) = by (lead_of policy row.host row.name) (searched_is_among policy name rows)
  where
    by : (lead : Option Lead) → list_any (leads_to policy name) rows ≡ is_among (search_names policy rows) name
        → (is_real lead name || list_any (leads_to policy name) rows) ≡ is_among (cons_option (real_in lead) (search_names policy rows)) name
    by None rest = rest
    by (Some lead) rest = ap (λ (t : Bool). is_real (Some lead) name || t) rest

-- what rows lead to with one row more
pub names_with_one_more : (policy : Policy) (rows : List RememberedSearch) (row : RememberedSearch) → search_names policy (rows ++ row ∷ []) ≡ search_names policy rows ++ cons_option (search_name policy row) []
names_with_one_more policy [] row = by (search_name policy row)
  where
    by : (name : Option (List ℕ)) → cons_option name [] ≡ [] ++ cons_option name []
    by None = refl
    by (Some name) = refl
names_with_one_more policy (first ∷ rows) row = by (search_name policy first) (names_with_one_more policy rows row)
  where
    by : (name : Option (List ℕ)) → search_names policy (rows ++ row ∷ []) ≡ search_names policy rows ++ cons_option (search_name policy row) []
        → cons_option name (search_names policy (rows ++ row ∷ [])) ≡ cons_option name (search_names policy rows) ++ cons_option (search_name policy row) []
    by None rest = rest
    by (Some name) rest = ap (λ (names : List (List ℕ)). name ∷ names) rest
