use Rattle.std.proofs.Common.{ap, ◌∙◌}
use Rattle.rows.specs.Rows.{change_first}
use Rattle.value_cache.specs.Held.{without_properties}
use Rattle.gateway_state.specs.CachedRows.{is_cached_of}
use Rattle.state_tables.specs.LatestRows.{with_held}
use Rattle.state_tables.proofs.LatestLemmas.{latest_changed, rows_with}
use Rattle.state_tables.proofs.latest.Latest.drop_properties.Goals as goal

pub invariant_of-self : goal.invariant_of-self
invariant_of-self c = latest_changed c.self.inside.rows c.self.invariant c.args.cid _ c.key.ensures (without_properties) _ c.drop_properties.ensures

pub returns : goal.returns
returns c =
    rows_with c.self.inside.rows c.self.invariant c.args.cid _ c.key.ensures (without_properties) _ c.drop_properties.ensures
    ∙ ap (change_first (is_cached_of c.args.cid) (with_held (without_properties))) c.self.view_is
