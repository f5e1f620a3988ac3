use Rattle.link_table.proofs.ServerLemmas.{servers_put}
use Rattle.link_table.proofs.table.Links.put_server.Goals as goal

pub invariant_of-self : goal.invariant_of-self
invariant_of-self c = rw c.put.ensures (servers_put c.self.inside.servers c.args.number c.args.minor c.self.inside.links c.self.invariant)
