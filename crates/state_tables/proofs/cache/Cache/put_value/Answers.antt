use Rattle.std.proofs.Common.{ap, ◌∙◌}
use Rattle.rows.specs.Rows.{change_first}
use Rattle.value_cache.specs.Held.{with_value}
use Rattle.gateway_state.specs.CachedRows.{is_cached_of}
use Rattle.state_tables.specs.LatestRows.{with_held}
use Rattle.state_tables.proofs.LatestLemmas.{made_and_changed}
use Rattle.state_tables.proofs.ServerLemmas.{listed_changed}
use Rattle.state_tables.proofs.cache.Cache.put_value.Goals as goal

-- the row is of the same server
pub invariant_of-self : goal.invariant_of-self
invariant_of-self c =
    let s = c.self.inside in
    rw c.put_value.ensures (listed_changed c.args.cid (with_value c.args.dtype c.args.count c.args.payload c.args.asked_with) s.latest s.listed c.self.invariant)

-- it is made, and then changed
pub returns-clause-ok : goal.returns-clause-ok
returns-clause-ok c =
    let change = with_value c.args.dtype c.args.count c.args.payload c.args.asked_with in
    c.put_value.ensures
    ∙ ap (change_first (is_cached_of c.args.cid) (with_held change)) (c.self.view_is ∙ c.in_ok-make_row.ensures.ok)
    ∙ made_and_changed c.args.server c.args.cid change c.args.self.now
