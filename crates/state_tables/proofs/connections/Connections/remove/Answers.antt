use Rattle.std.proofs.Common.{ap, ◌∙◌}
use Rattle.std.specs.List.{filter}
use Rattle.gateway_state.specs.Connections.{is_not_to}
use Rattle.state_tables.proofs.ConnectionRows.{keyed_less, connections_less}
use Rattle.state_tables.proofs.connections.Connections.remove.Goals as goal

pub invariant_of-self : goal.invariant_of-self
invariant_of-self c = keyed_less c.self.inside.rows c.self.invariant c.args.dest _ c.key_of.ensures _ c.remove.ensures

pub returns : goal.returns
returns c = connections_less c.self.inside.rows c.self.invariant c.args.dest _ c.key_of.ensures _ c.remove.ensures ∙ ap (filter (is_not_to c.args.dest)) c.self.view_is
