use Rattle.std.proofs.Common.{refl}
use Rattle.link_table.specs.Links.{is_link, with_state}
use Rattle.link_table.proofs.ServerLemmas.{links_put}
use Rattle.link_table.proofs.table.Links.put_link.Goals as goal

pub invariant_of-self : goal.invariant_of-self
invariant_of-self c =
    rw c.put.ensures (links_put c.self.inside.servers c.self.inside.links (is_link c.args.server c.args.cid) (with_state c.args.state c.args.rights) (λ link. refl) c.self.invariant)
