use Rattle.link_table.proofs.ServerLemmas.{numbers_put}
use Rattle.link_table.proofs.servers.ServerRows.put.Goals as goal

pub invariant_of-self : goal.invariant_of-self
invariant_of-self c = rw c.put_minor.ensures (numbers_put c.self.inside.apart c.self.inside.rows.items c.args.number c.args.minor c.self.invariant)
