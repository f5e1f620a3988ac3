use Rattle.std.proofs.Common.{ap, ◌∙◌}
use Rattle.rows.specs.Rows.{change_first}
use Rattle.value_cache.specs.Held.{with_value}
use Rattle.gateway_state.specs.CachedRows.{is_cached_of}
use Rattle.state_tables.specs.LatestRows.{with_held}
use Rattle.state_tables.proofs.LatestLemmas.{latest_changed, rows_with}
use Rattle.state_tables.proofs.latest.Latest.put_value.Goals as goal

pub invariant_of-self : goal.invariant_of-self
invariant_of-self c = latest_changed c.self.inside.rows c.self.invariant c.args.cid _ c.key.ensures (with_value c.args.dtype c.args.count c.args.payload c.args.asked_with) _ c.put_value.ensures

pub returns : goal.returns
returns c =
    rows_with c.self.inside.rows c.self.invariant c.args.cid _ c.key.ensures (with_value c.args.dtype c.args.count c.args.payload c.args.asked_with) _ c.put_value.ensures
    ∙ ap (change_first (is_cached_of c.args.cid) (with_held (with_value c.args.dtype c.args.count c.args.payload c.args.asked_with))) c.self.view_is
