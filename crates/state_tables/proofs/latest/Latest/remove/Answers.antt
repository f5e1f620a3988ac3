use Rattle.std.proofs.Common.{ap, ◌∙◌}
use Rattle.std.specs.List.{filter}
use Rattle.gateway_state.specs.CachedRows.{is_cached_elsewhere}
use Rattle.state_tables.proofs.LatestLemmas.{latest_less, rows_left}
use Rattle.state_tables.proofs.latest.Latest.remove.Goals as goal

pub invariant_of-self : goal.invariant_of-self
invariant_of-self c = latest_less c.self.inside.rows c.self.invariant c.args.cid _ c.key.ensures _ c.remove.ensures

pub returns : goal.returns
returns c = rows_left c.self.inside.rows c.self.invariant c.args.cid _ c.key.ensures _ c.remove.ensures ∙ ap (filter (is_cached_elsewhere c.args.cid)) c.self.view_is
