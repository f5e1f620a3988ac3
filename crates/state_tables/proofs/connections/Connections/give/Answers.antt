use Rattle.std.proofs.Common.{refl}
use Rattle.gateway_state.specs.Connections.{given}
use Rattle.state_tables.proofs.ConnectionRows.{keyed_either, changed_if_ok}
use Rattle.state_tables.proofs.connections.Connections.give.Goals as goal

pub invariant_of-self : goal.invariant_of-self
invariant_of-self c = keyed_either c.self.inside.rows c.self.invariant c.args.dest _ c.key_of.ensures (given c.args.most c.args.out) (λ row. refl) _ c.give.result c.give.ensures.ok c.give.ensures.err

pub returns-clause-ok : goal.returns-clause-ok
returns-clause-ok c = rw (← c.self.view_is) (changed_if_ok c.self.inside.rows c.self.invariant c.args.dest _ c.key_of.ensures (given c.args.most c.args.out) (λ row. refl) _ c.give.result c.give.ensures.ok)
