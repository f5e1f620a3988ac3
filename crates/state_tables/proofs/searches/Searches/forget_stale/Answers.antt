use Rattle.std.proofs.Common.{◌≡◌, List, filter, map, sym, ap, subst, ◌∙◌}
use Rattle.gateway_state.specs.declared.search.RememberedSearch.{RememberedSearch}
use Rattle.gateway_state.specs.Searches.{grown_stale, is_fresh, is_stale}
use Rattle.gateway_state.specs.Variables.{search_names}
use Rattle.state_tables.specs.Kept.{AreRight, all_aged, kept_key, searches_of}
use Rattle.state_tables.specs.Searches.{SearchRows}
use Rattle.state_tables.proofs.SearchAges.{aged_right, aged_searches, stale_names}
use Rattle.state_tables.proofs.searches.Searches.forget_stale.Goals as goal

pub invariant_of-self : goal.invariant_of-self
invariant_of-self c =
    let is : c.age.new.self ≡ all_aged (map kept_key c.self.inside.rows) c.self.inside.rows =
    c.age.ensures ∙ ap (λ keys. all_aged keys c.self.inside.rows) (c.deref.ensures.value ∙ c.in_ok-keys.ensures) in
    (subst (AreRight c.self.inside.policy) (sym is) (aged_right c.self.inside.policy c.self.inside.rows c.self.invariant.0 c.are_apart.ensures), c.self.invariant.1)

-- with the keys of all
pub returns-clause-ok : goal.returns-clause-ok
returns-clause-ok c =
    let is : c.age.new.self ≡ all_aged (map kept_key c.self.inside.rows) c.self.inside.rows =
    c.age.ensures ∙ ap (λ keys. all_aged keys c.self.inside.rows) (c.deref.ensures.value ∙ c.in_ok-keys.ensures) in
    ap (λ (rows : List RememberedSearch). let s : SearchRows = record { policy = c.self.inside.policy; rows = rows } in s)
    (ap searches_of is ∙ aged_searches c.self.inside.policy c.self.inside.rows c.self.invariant.0 c.are_apart.ensures)
    ∙ ap (λ (s : SearchRows). let t : SearchRows = record { policy = s.policy; rows = map grown_stale (filter is_fresh s.rows) } in t) c.self.view_is

pub returns-clause-names : goal.returns-clause-names
returns-clause-names c =
    c.in_ok-names.ensures ∙ stale_names c.self.inside.policy c.self.inside.rows c.self.invariant.0 ∙ ap (λ (s : SearchRows). search_names s.policy (filter is_stale s.rows)) c.self.view_is
