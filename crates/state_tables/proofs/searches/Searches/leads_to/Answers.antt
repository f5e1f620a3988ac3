use Rattle.std.proofs.Common.{ap, ◌∙◌}
use Rattle.std.specs.List.{list_any}
use Rattle.gateway_state.specs.Searches.{leads_to}
use Rattle.state_tables.specs.Searches.{SearchRows}
use Rattle.state_tables.proofs.KeptSearches.{any_led}
use Rattle.state_tables.proofs.searches.Searches.leads_to.Goals as goal

pub returns : goal.returns
returns c =
    c.leads_to.ensures
    ∙ any_led c.self.inside.policy c.args.name.now c.self.inside.rows c.self.invariant.0
    ∙ ap (λ (s : SearchRows). list_any (leads_to s.policy c.args.name.now) s.rows) c.self.view_is
