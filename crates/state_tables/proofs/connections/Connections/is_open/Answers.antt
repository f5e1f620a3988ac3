use Rattle.std.proofs.Common.{ap, ◌∙◌}
use Rattle.std.specs.List.{list_any}
use Rattle.gateway_state.specs.Connections.{is_to}
use Rattle.state_tables.proofs.ConnectionRows.{any_by_key}
use Rattle.state_tables.proofs.connections.Connections.is_open.Goals as goal

pub returns : goal.returns
returns c = c.contains.ensures ∙ any_by_key c.self.inside.rows c.self.invariant c.args.dest _ c.key_of.ensures ∙ ap (list_any (is_to c.args.dest)) c.self.view_is
