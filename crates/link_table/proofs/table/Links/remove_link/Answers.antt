use Rattle.link_table.specs.Links.{is_not_link}
use Rattle.link_table.proofs.ServerLemmas.{links_fewer}
use Rattle.link_table.proofs.table.Links.remove_link.Goals as goal

pub invariant_of-self : goal.invariant_of-self
invariant_of-self c = rw c.remove.ensures (links_fewer c.self.inside.servers c.self.inside.links (is_not_link c.args.server c.args.cid) c.self.invariant)
