use Rattle.std.proofs.Common.{◌≡◌, List, refl, sym, ap, subst, ◌∙◌}
use Rattle.std.specs.List.{filter}
use Rattle.gateway_state.specs.declared.cached.LastMessage.{LastMessage}
use Rattle.gateway_state.specs.CachedRows.{is_cached_by_another}
use Rattle.state_tables.proofs.ServerLemmas.{none_listed, one_fewer, others_kept}
use Rattle.state_tables.proofs.cache.Cache.remove_one.Goals as goal

-- the message that goes is of the server
pub returns-in-Some-clause-others : goal.returns-in-Some-clause-others
returns-in-Some-clause-others c =
    let s = c.self.inside in
    let server = c.args.server in
    let cid = c.in-Some.cid in
    let here = sym (c.self.invariant.exact server cid) ∙ c.in-Some.ensures.found in
    ap (filter (is_cached_by_another server)) (c.remove.ensures) ∙ rw (sym c.self.view_is) (others_kept server cid s.latest c.has_cids_apart.ensures here)

pub returns-in-Some-clause-one : goal.returns-in-Some-clause-one
returns-in-Some-clause-one c = λ _.
    let s = c.self.inside in
    let server = c.args.server in
    let cid = c.in-Some.cid in
    let here = sym (c.self.invariant.exact server cid) ∙ c.in-Some.ensures.found in
    rw (c.remove.ensures, sym c.self.view_is) (one_fewer server cid s.latest here)

-- a server that has nothing listed has no messages
pub returns-in-None-clause-none : goal.returns-in-None-clause-none
returns-in-None-clause-none c = λ _.
    let s = c.self.inside in
    subst (λ (rows : List LastMessage). filter (is_cached_by_another c.args.server) rows ≡ rows) c.self.view_is (none_listed c.args.server s.latest s.listed c.has_cids_apart.ensures c.self.invariant (c.in-None.ensures.none refl))
