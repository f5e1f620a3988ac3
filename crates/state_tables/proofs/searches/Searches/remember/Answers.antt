use Rattle.std.proofs.Common.{◌≡◌, List, Some, None, true, false, sym, ap, ◌∙◌}
use Rattle.std.specs.List.{list_any}
use Rattle.gateway_state.specs.declared.search.RememberedSearch.{RememberedSearch}
use Rattle.gateway_state.specs.Searches.{left_by_search, same_search, searched_first, with_search}
use Rattle.state_tables.specs.Kept.{searches_of}
use Rattle.state_tables.specs.Searches.{SearchRows}
use Rattle.state_tables.proofs.KeptSearches.{any_sought}
use Rattle.state_tables.proofs.SearchChanges.{again_is, again_right_either, none_left_again, on_ok, with_it_again, with_it_first}
use Rattle.state_tables.proofs.searches.Searches.remember.Goals as goal

pub invariant_of-self-in-Some : goal.invariant_of-self-in-Some
invariant_of-self-in-Some c = (
  again_right_either c.self.inside.policy c.self.inside.rows c.self.invariant.0 c.are_apart.ensures c.args.host.now c.args.name.now c.args.limits.now c.in-Some.key c.in-Some.ensures c.again.result _ c.again.ensures.ok c.again.ensures.err,
  c.self.invariant.1,
)

-- one that is there is made again
pub returns-in_ok-again-in-Some-clause-ok : goal.returns-in_ok-again-in-Some-clause-ok
returns-in_ok-again-in-Some-clause-ok c =
    let there : list_any (same_search c.args.host.now c.args.name.now) (searches_of c.self.inside.rows) ≡ true =
    sym (any_sought c.self.inside.policy c.args.host.now c.args.name.now c.self.inside.rows c.self.invariant.0 (Some c.in-Some.key) c.in-Some.ensures) in
    ap (λ (rows : List RememberedSearch). let s : SearchRows = record { policy = c.self.inside.policy; rows = rows } in s)
    (ap searches_of c.in_ok-again-in-Some.ensures.ok
    ∙ again_is c.self.inside.policy c.self.inside.rows c.self.invariant.0 c.are_apart.ensures c.args.host.now c.args.name.now c.args.limits.now c.in_ok-again-in-Some.field-0 c.in-Some.key c.in-Some.ensures
    ∙ with_it_again c.args.limits.now c.args.host.now c.args.name.now (searches_of c.self.inside.rows) there)
    ∙ ap (λ (s : SearchRows). let t : SearchRows = record { policy = s.policy; rows = with_search c.args.limits.now c.args.host.now c.args.name.now s.rows } in t) c.self.view_is

pub returns-in_ok-again-in-Some-clause-left : goal.returns-in_ok-again-in-Some-clause-left
returns-in_ok-again-in-Some-clause-left c =
    let there : list_any (same_search c.args.host.now c.args.name.now) (searches_of c.self.inside.rows) ≡ true =
    sym (any_sought c.self.inside.policy c.args.host.now c.args.name.now c.self.inside.rows c.self.invariant.0 (Some c.in-Some.key) c.in-Some.ensures) in
    none_left_again c.args.limits.now c.args.host.now c.args.name.now (searches_of c.self.inside.rows) there
    ∙ ap (λ (s : SearchRows). left_by_search c.args.limits.now c.args.host.now c.args.name.now s.rows) c.self.view_is

-- one that isn't there is the first
pub remember_first-requires : goal.remember_first-requires
remember_first-requires c =
    let new : list_any (same_search c.args.host.now c.args.name.now) c.args.self.now.rows ≡ false =
    ap (λ (s : SearchRows). list_any (same_search c.args.host.now c.args.name.now) s.rows) (sym c.self.view_is)
    ∙ sym (any_sought c.self.inside.policy c.args.host.now c.args.name.now c.self.inside.rows c.self.invariant.0 None c.in-None.ensures) in
    record { new = new }

pub returns-in-None-clause-ok : goal.returns-in-None-clause-ok
returns-in-None-clause-ok c =
    let new : list_any (same_search c.args.host.now c.args.name.now) c.args.self.now.rows ≡ false =
    ap (λ (s : SearchRows). list_any (same_search c.args.host.now c.args.name.now) s.rows) (sym c.self.view_is)
    ∙ sym (any_sought c.self.inside.policy c.args.host.now c.args.name.now c.self.inside.rows c.self.invariant.0 None c.in-None.ensures) in
    on_ok c.remember_first.result _ _
    (λ (e : c.remember_first.new.self ≡ record c.args.self.now { rows = searched_first c.args.limits.now c.args.host.now c.args.name.now c.args.self.now.rows }).
    e ∙ ap (λ (rows : List RememberedSearch). let s : SearchRows = record c.args.self.now { rows = rows } in s) (with_it_first c.args.limits.now c.args.host.now c.args.name.now c.args.self.now.rows new))
    c.remember_first.ensures.ok
