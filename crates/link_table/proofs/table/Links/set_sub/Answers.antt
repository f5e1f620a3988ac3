use Rattle.std.proofs.Common.{refl}
use Rattle.link_table.specs.Links.{is_link, with_subscription}
use Rattle.link_table.proofs.ServerLemmas.{links_put}
use Rattle.link_table.proofs.table.Links.set_sub.Goals.{in-Ok, in-Err}
use Rattle.link_table.proofs.table.Links.set_sub.Goals as goal

pub invariant_of-self : goal.invariant_of-self
invariant_of-self c =
    elim c.match-set_sub.branch [
      | in-Ok w ↦
          rw w.in-Ok.ensures.ok
          (links_put c.self.inside.servers c.self.inside.links (is_link c.args.server c.args.cid) (with_subscription c.args.subject c.args.sub) (λ link. refl) c.self.invariant)
      | in-Err w ↦ rw w.in-Err.ensures.err c.self.invariant
    ]
