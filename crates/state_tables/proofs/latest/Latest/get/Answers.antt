use Rattle.std.proofs.Common.{ap, ◌∙◌}
use Rattle.std.specs.List.{find}
use Rattle.gateway_state.specs.CachedRows.{is_cached_of}
use Rattle.state_tables.proofs.LatestLemmas.{row_found}
use Rattle.state_tables.proofs.latest.Latest.get.Goals as goal

pub returns : goal.returns
returns c = c.get.ensures ∙ row_found c.self.inside.rows c.self.invariant c.args.cid _ c.key.ensures ∙ ap (find (is_cached_of c.args.cid)) c.self.view_is
