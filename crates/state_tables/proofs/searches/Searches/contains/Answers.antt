use Rattle.std.proofs.Common.{ap, ◌∙◌}
use Rattle.std.specs.List.{list_any}
use Rattle.gateway_state.specs.Searches.{same_search}
use Rattle.state_tables.specs.Searches.{SearchRows}
use Rattle.state_tables.proofs.KeptSearches.{any_sought}
use Rattle.state_tables.proofs.searches.Searches.contains.Goals as goal

pub returns : goal.returns
returns c =
    c.is_some.ensures
    ∙ any_sought c.self.inside.policy c.args.host.now c.args.name.now c.self.inside.rows c.self.invariant.0 c.sought.result c.sought.ensures
    ∙ ap (λ (s : SearchRows). list_any (same_search c.args.host.now c.args.name.now) s.rows) c.self.view_is
