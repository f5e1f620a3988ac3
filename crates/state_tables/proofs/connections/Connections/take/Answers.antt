use Rattle.std.proofs.Common.{refl}
use Rattle.gateway_state.specs.Connections.{relieved}
use Rattle.state_tables.proofs.ConnectionRows.{keyed_either, changed_if_ok, found_by_key}
use Rattle.state_tables.proofs.connections.Connections.take.Goals as goal

pub invariant_of-self : goal.invariant_of-self
invariant_of-self c = keyed_either c.self.inside.rows c.self.invariant c.args.dest _ c.key_of.ensures (relieved c.args.count) (λ row. refl) _ c.take.result c.take.ensures.ok c.take.ensures.err

pub returns-clause-ok : goal.returns-clause-ok
returns-clause-ok c = rw (← c.self.view_is) (changed_if_ok c.self.inside.rows c.self.invariant c.args.dest _ c.key_of.ensures (relieved c.args.count) (λ row. refl) _ c.take.result c.take.ensures.ok)

pub returns-clause-found : goal.returns-clause-found
returns-clause-found c = rw (← c.self.view_is, ← found_by_key c.self.inside.rows c.self.invariant c.args.dest _ c.key_of.ensures) c.take.ensures.found
