use Rattle.std.proofs.Common.{◌≡◌, List, Option, None, sym, ap, subst, ◌∙◌}
use Rattle.std.specs.List.{find}
use Rattle.named_rows.specs.Indexes.{is_not_at}
use Rattle.gateway_state.specs.declared.search.RememberedSearch.{RememberedSearch}
use Rattle.gateway_state.specs.Searches.{same_search, without_search}
use Rattle.state_tables.specs.Kept.{AreRight, kept_key, searches_of}
use Rattle.state_tables.specs.Searches.{SearchRows}
use Rattle.state_tables.proofs.KeptSearches.{right_filtered}
use Rattle.state_tables.proofs.SearchChanges.{ended, ended_is, none_sought}
use Rattle.state_tables.proofs.searches.Searches.end.Goals as goal

-- none goes where none is sought
pub returns-in-None-clause-ended : goal.returns-in-None-clause-ended
returns-in-None-clause-ended c =
    none_sought c.self.inside.policy c.self.inside.rows c.self.invariant.0 c.args.host.now c.args.name.now c.in-None.ensures
    ∙ ap (λ (s : SearchRows). find (same_search c.args.host.now c.args.name.now) s.rows) c.self.view_is

pub returns-in-None-clause-rows : goal.returns-in-None-clause-rows
returns-in-None-clause-rows c =
    let none : None ≡ find (same_search c.args.host.now c.args.name.now) c.args.self.now.rows =
    none_sought c.self.inside.policy c.self.inside.rows c.self.invariant.0 c.args.host.now c.args.name.now c.in-None.ensures
    ∙ ap (λ (s : SearchRows). find (same_search c.args.host.now c.args.name.now) s.rows) c.self.view_is in
    ap (λ (o : Option RememberedSearch). let s : SearchRows = record c.args.self.now { rows = without_search o c.args.self.now.rows } in s) none

pub invariant_of-self : goal.invariant_of-self
invariant_of-self c = (
  subst (AreRight c.self.inside.policy) (sym c.take.ensures.rows) (right_filtered c.self.inside.policy (is_not_at kept_key c.in-Some.key) c.self.inside.rows c.self.invariant.0),
  c.self.invariant.1,
)

pub returns-in-Some-clause-ended : goal.returns-in-Some-clause-ended
returns-in-Some-clause-ended c =
    c.take.ensures.taken
    ∙ ended_is c.self.inside.policy c.self.inside.rows c.self.invariant.0 c.are_apart.ensures c.args.host.now c.args.name.now c.in-Some.key c.in-Some.ensures
    ∙ ap (λ (s : SearchRows). find (same_search c.args.host.now c.args.name.now) s.rows) c.self.view_is

pub returns-in-Some-clause-rows : goal.returns-in-Some-clause-rows
returns-in-Some-clause-rows c =
    ap (λ (rows : List RememberedSearch). let s : SearchRows = record { policy = c.self.inside.policy; rows = rows } in s)
    (ap searches_of c.take.ensures.rows ∙ ended c.self.inside.policy c.self.inside.rows c.self.invariant.0 c.are_apart.ensures c.args.host.now c.args.name.now c.in-Some.key c.in-Some.ensures)
    ∙ ap (λ (s : SearchRows). let t : SearchRows = record { policy = s.policy; rows = without_search (find (same_search c.args.host.now c.args.name.now) s.rows) s.rows } in t) c.self.view_is
