use Rattle.std.proofs.Common.{ap, ◌∙◌}
use Rattle.std.specs.List.{find}
use Rattle.gateway_state.specs.Connections.{is_to}
use Rattle.state_tables.proofs.ConnectionRows.{found_by_key}
use Rattle.state_tables.proofs.connections.Connections.get.Goals as goal

pub returns : goal.returns
returns c = c.get.ensures ∙ found_by_key c.self.inside.rows c.self.invariant c.args.dest _ c.key_of.ensures ∙ ap (find (is_to c.args.dest)) c.self.view_is
