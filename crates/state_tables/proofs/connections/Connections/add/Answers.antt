use Rattle.std.proofs.Common.{ap, ◌∙◌}
use Rattle.std.specs.List.{list_any}
use Rattle.gateway_state.specs.Connections.{is_to}
use Rattle.state_tables.proofs.ConnectionRows.{none_by_key, keyed_more, connections_more}
use Rattle.state_tables.proofs.connections.Connections.add.Goals as goal

pub add-requires : goal.add-requires
add-requires c = record {
  new = none_by_key c.self.inside.rows c.self.invariant c.args.dest _ c.key_of.ensures (ap (list_any (is_to c.args.dest)) c.self.view_is ∙ c.requires.new);
}

pub invariant_of-self : goal.invariant_of-self
invariant_of-self c =
    keyed_more c.self.inside.rows c.self.invariant _ _ c.key_of.ensures _ c.add.result c.add.ensures.ok c.add.ensures.err

pub returns-clause-ok : goal.returns-clause-ok
returns-clause-ok c = rw (← c.self.view_is, ← c.new.ensures) (connections_more c.self.inside.rows c.self.invariant _ _ c.key_of.ensures _ c.add.result c.add.ensures.ok)
