use Rattle.std.proofs.Common.{map, ap, ◌∙◌}
use Rattle.gateway_state.specs.Variables.{search_names}
use Rattle.state_tables.specs.Kept.{reals_of}
use Rattle.state_tables.specs.Searches.{SearchRows}
use Rattle.state_tables.proofs.KeptSearches.{reals_same}
use Rattle.state_tables.proofs.searches.Searches.names.Goals as goal

pub returns : goal.returns
returns c =
    let all =
    ap (λ rows. reals_of (map (λ row. row.now) rows)) c.deref.ensures.value ∙ ap reals_of c.in_ok-rows.ensures
    ∙ reals_same c.self.inside.policy c.self.inside.rows c.self.invariant.0
    ∙ ap (λ (s : SearchRows). search_names s.policy s.rows) c.self.view_is in
    rw (← all) c.reals.ensures
