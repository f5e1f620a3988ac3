use Rattle.std.proofs.Common.{sym, ap, ◌∙◌}
use Rattle.std.specs.List.{find, filter}
use Rattle.link_table.proofs.ValueLemmas.{none_left_out}
use Rattle.gateway_state.specs.CachedRows.{is_cached_of, is_cached_elsewhere}
use Rattle.state_tables.proofs.ServerLemmas.{listed_less, no_server}
use Rattle.state_tables.proofs.cache.Cache.remove.Goals as goal

-- the entry goes with the message
pub invariant_of-self : goal.invariant_of-self
invariant_of-self c =
    let s = c.self.inside in
    rw (c.remove-in-Some.ensures, c.remove.ensures) (listed_less c.in-Some.owner c.args.cid s.latest s.listed (sym c.server_of.ensures ∙ c.in-Some.is) c.self.invariant)

-- where there is no message, none goes
pub returns-in_default : goal.returns-in_default
returns-in_default c =
    let rows = c.self.inside.latest in
    let none = no_server (find (is_cached_of c.args.cid) rows) (sym c.server_of.ensures ∙ c.in_default.is) in
    sym c.self.view_is ∙ sym (none_left_out (is_cached_of c.args.cid) rows none) ∙ ap (filter (is_cached_elsewhere c.args.cid)) c.self.view_is
