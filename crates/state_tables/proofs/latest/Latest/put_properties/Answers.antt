use Rattle.std.proofs.Common.{ap, ◌∙◌}
use Rattle.rows.specs.Rows.{change_first}
use Rattle.value_cache.specs.Held.{with_properties}
use Rattle.gateway_state.specs.CachedRows.{is_cached_of}
use Rattle.state_tables.specs.LatestRows.{with_held}
use Rattle.state_tables.proofs.LatestLemmas.{latest_changed, rows_with}
use Rattle.state_tables.proofs.latest.Latest.put_properties.Goals as goal

pub invariant_of-self : goal.invariant_of-self
invariant_of-self c = latest_changed c.self.inside.rows c.self.invariant c.args.cid _ c.key.ensures (with_properties c.args.dtype c.args.payload) _ c.put_properties.ensures

pub returns : goal.returns
returns c =
    rows_with c.self.inside.rows c.self.invariant c.args.cid _ c.key.ensures (with_properties c.args.dtype c.args.payload) _ c.put_properties.ensures
    ∙ ap (change_first (is_cached_of c.args.cid) (with_held (with_properties c.args.dtype c.args.payload))) c.self.view_is
