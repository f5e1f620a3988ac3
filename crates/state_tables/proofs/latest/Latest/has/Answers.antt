use Rattle.std.proofs.Common.{ap, ◌∙◌}
use Rattle.std.specs.List.{list_any}
use Rattle.gateway_state.specs.CachedRows.{is_cached_of}
use Rattle.state_tables.proofs.LatestLemmas.{there_if_found}
use Rattle.state_tables.proofs.latest.Latest.has.Goals as goal

pub returns : goal.returns
returns c = c.contains.ensures ∙ there_if_found c.self.inside.rows c.self.invariant c.args.cid _ c.key.ensures ∙ ap (list_any (is_cached_of c.args.cid)) c.self.view_is
