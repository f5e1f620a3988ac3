use Rattle.std.proofs.Common.{◌≡◌, List, [], ◌∷◌, ◌++◌, None, Option, sym, ap, ◌∙◌, false}
use Rattle.std.specs.List.{list_any}
use Rattle.pv_name.specs.Host.{lowercase}
use Rattle.gateway_state.specs.declared.search.RememberedSearch.{RememberedSearch}
use Rattle.gateway_state.specs.Resolution.{lead_of}
use Rattle.gateway_state.specs.Searches.{left_by_search, made_now, same_search, searched_first}
use Rattle.state_tables.specs.declared.kept.KeptSearch.{KeptSearch}
use Rattle.state_tables.specs.Kept.{outworn_row, rows_after, search_in, search_of, searches_of}
use Rattle.state_tables.specs.Searches.{SearchRows}
use Rattle.state_tables.proofs.KeptSearches.{right_made}
use Rattle.state_tables.proofs.SearchChanges.{first_taken_in, if_ok, left_is, on_ok, one_more_right}
use Rattle.state_tables.proofs.searches.Searches.remember_first.Goals as goal

-- the row that is added leads where the policy says
pub invariant_of-self : goal.invariant_of-self
invariant_of-self c = (
  one_more_right c.take_in.result c.self.inside.policy c.self.inside.rows c.self.invariant.0 c.in_ok-kept.kept
      (right_made c.self.inside.policy c.in_ok-kept.kept.serial (made_now c.args.host.now c.args.name.now) c.in_ok-lead.lead c.in_ok-kept.kept
      (c.in_ok-lead.ensures ∙ ap (λ (s : SearchRows). lead_of s.policy c.args.host.now c.args.name.now) (sym c.self.view_is)) c.in_ok-kept.ensures.row)
      (outworn_row c.args.limits.now c.in_ok-kept.kept.owner c.self.inside.rows) _ c.take_in.ensures.ok c.take_in.ensures.err,
  c.self.invariant.1,
)

pub invariant_of-self-else-limits : goal.invariant_of-self-else-limits
invariant_of-self-else-limits c = (
  one_more_right c.add.result c.self.inside.policy c.self.inside.rows c.self.invariant.0 c.in_ok-kept.kept
      (right_made c.self.inside.policy c.in_ok-kept.kept.serial (made_now c.args.host.now c.args.name.now) c.in_ok-lead.lead c.in_ok-kept.kept
      (c.in_ok-lead.ensures ∙ ap (λ (s : SearchRows). lead_of s.policy c.args.host.now c.args.name.now) (sym c.self.view_is)) c.in_ok-kept.ensures.row)
      None _ c.add.ensures.ok c.add.ensures.err,
  c.self.invariant.1,
)

pub returns-then-limits-clause-ok : goal.returns-then-limits-clause-ok
returns-then-limits-clause-ok c =
    let kept = c.in_ok-kept.kept in
    let made : search_of kept ≡ made_now c.args.host.now c.args.name.now = ap search_of c.in_ok-kept.ensures.row in
    let owner : kept.owner ≡ lowercase c.args.host.now = ap (λ (k : KeptSearch). k.owner) c.in_ok-kept.ensures.row in
    on_ok c.take_in.result _ _
    (λ (e : c.take_in.new.rows ≡ rows_after (outworn_row c.args.limits.now kept.owner c.self.inside.rows) c.self.inside.rows ++ kept ∷ []).
    ap (λ (rows : List RememberedSearch). let s : SearchRows = record { policy = c.self.inside.policy; rows = rows } in s)
    (ap searches_of e ∙ first_taken_in c.self.inside.policy c.self.inside.rows c.self.invariant.0 c.args.limits.now c.args.host.now c.args.name.now c.if-limits.true c.are_apart.ensures kept made kept.owner owner)
    ∙ ap (λ (s : SearchRows). let t : SearchRows = record { policy = s.policy; rows = searched_first c.args.limits.now c.args.host.now c.args.name.now s.rows } in t) c.self.view_is)
    c.take_in.ensures.ok

pub returns-then-limits-clause-left : goal.returns-then-limits-clause-left
returns-then-limits-clause-left c =
    let kept = c.in_ok-kept.kept in
    let owner : kept.owner ≡ lowercase c.args.host.now = ap (λ (k : KeptSearch). k.owner) c.in_ok-kept.ensures.row in
    let new : list_any (same_search c.args.host.now c.args.name.now) (searches_of c.self.inside.rows) ≡ false =
    ap (λ (s : SearchRows). list_any (same_search c.args.host.now c.args.name.now) s.rows) c.self.view_is ∙ c.requires.new in
    if_ok c.take_in.result _ _
    (λ (left : Option RememberedSearch) (e : left ≡ search_in (outworn_row c.args.limits.now kept.owner c.self.inside.rows)).
    e ∙ left_is c.self.inside.policy c.self.inside.rows c.self.invariant.0 c.args.limits.now c.args.host.now c.args.name.now c.are_apart.ensures new c.if-limits.true kept.owner owner
    ∙ ap (λ (s : SearchRows). left_by_search c.args.limits.now c.args.host.now c.args.name.now s.rows) c.self.view_is)
    c.take_in.ensures.left
