use Rattle.link_table.proofs.ServerLemmas.{numbers_fewer}
use Rattle.link_table.proofs.servers.ServerRows.remove.Goals as goal

pub invariant_of-self : goal.invariant_of-self
invariant_of-self c = rw c.remove_row.ensures (numbers_fewer c.self.inside.apart c.self.inside.rows.items c.args.number c.self.invariant)
