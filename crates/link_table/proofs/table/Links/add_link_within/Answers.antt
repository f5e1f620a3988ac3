use Rattle.std.proofs.Common.{sym, ◌∙◌}
use Rattle.link_table.specs.Links.{new_link}
use Rattle.link_table.proofs.ServerLemmas.{links_more}
use Rattle.link_table.proofs.table.Links.add_link_within.Goals.{in-Ok, in-Err}
use Rattle.link_table.proofs.table.Links.add_link_within.Goals as goal

pub invariant_of-self : goal.invariant_of-self
invariant_of-self c =
    elim c.match-add.branch [
      | in-Ok w ↦
          rw w.in-Ok.ensures.ok
          (links_more c.self.inside.servers c.self.inside.links (new_link c.args.server c.args.cid c.args.name)
          (sym c.stands.ensures ∙ c.if-not-stands.false) c.self.invariant)
      | in-Err w ↦ rw w.in-Err.ensures.err c.self.invariant
    ]
