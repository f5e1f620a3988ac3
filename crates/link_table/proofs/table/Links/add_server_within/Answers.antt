use Rattle.link_table.proofs.ServerLemmas.{servers_more}
use Rattle.link_table.proofs.table.Links.add_server_within.Goals.{in-Ok, in-Err}
use Rattle.link_table.proofs.table.Links.add_server_within.Goals as goal

pub invariant_of-self : goal.invariant_of-self
invariant_of-self c =
    elim c.match-add.branch [
      | in-Ok w ↦ rw w.in-Ok.ensures.ok (servers_more c.self.inside.servers c.args.server c.self.inside.links c.self.invariant)
      | in-Err w ↦ rw w.in-Err.ensures.err c.self.invariant
    ]
