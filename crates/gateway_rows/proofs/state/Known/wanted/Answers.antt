use Rattle.std.proofs.Common.{ap, ◌∙◌, Some, None, if◌then◌else◌}
use Rattle.named_rows.specs.Demand.{props_on, want_on}
use Rattle.dbr_layout.specs.Needs.{is_state_by}
use Rattle.gateway_rows.specs.BrandedState.{BrandedState}
use Rattle.gateway_state.specs.Interest.{property_want}
use Rattle.gateway_rows.proofs.Readers.{interest_as_counted, properties_as_counted}
use Rattle.gateway_rows.proofs.state.Known.wanted.Goals as goal

-- what is counted is what the readers ask for
pub returns : goal.returns
returns c =
    let name = c.args.name.now in
    let clients = c.self.inside.clients.rows in
    record {
      values =
          c.demand_on-values.ensures.want
          ∙ ap (λ (w : BrandedState). want_on w.state.clients.channels w.state.clients.subs c.args.native name) c.self.view_is
          ∙ interest_as_counted c.args.self.now.state name c.args.native c.requires.told;
      properties =
          c.properties_if.ensures
          ∙ ap (λ needed. if needed then Some property_want else None) (
          c.demand_on-values.ensures.props
          ∙ ap (λ states. props_on clients.channels clients.subs states name) c.is_state_by.ensures
          ∙ ap (λ (w : BrandedState). props_on w.state.clients.channels w.state.clients.subs (is_state_by c.args.dtype) name) c.self.view_is
          ∙ properties_as_counted c.args.self.now.state name c.args.dtype c.requires.told
          );
    }
