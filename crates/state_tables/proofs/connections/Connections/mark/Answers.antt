use Rattle.std.proofs.Common.{refl, ap, ◌∙◌}
use Rattle.rows.specs.Rows.{change_first}
use Rattle.gateway_state.specs.Connections.{is_to, marked_now}
use Rattle.state_tables.proofs.ConnectionRows.{keyed_changed, connections_changed}
use Rattle.state_tables.proofs.connections.Connections.mark.Goals as goal

pub invariant_of-self : goal.invariant_of-self
invariant_of-self c = keyed_changed c.self.inside.rows c.self.invariant c.args.dest _ c.key_of.ensures marked_now (λ row. refl) _ c.mark.ensures

pub returns : goal.returns
returns c =
    connections_changed c.self.inside.rows c.self.invariant c.args.dest _ c.key_of.ensures marked_now (λ row. refl) _ c.mark.ensures
    ∙ ap (change_first (is_to c.args.dest) marked_now) c.self.view_is
