use Rattle.link_table.proofs.ServerLemmas.{servers_fewer}
use Rattle.link_table.proofs.table.Links.remove_server.Goals as goal

pub invariant_of-self : goal.invariant_of-self
invariant_of-self c = rw (c.remove.ensures, c.remove_of.ensures) (servers_fewer c.self.inside.servers c.args.number c.self.inside.links c.self.invariant)
