use Rattle.link_table.proofs.ServerLemmas.{numbers_more}
use Rattle.link_table.proofs.servers.ServerRows.add.Goals as goal

pub invariant_of-self-2 : goal.invariant_of-self-2
invariant_of-self-2 c =
    rw (c.stay_apart-self-inside.ensures, c.in_ok-push.ensures.items)
    (numbers_more c.self.inside.apart c.self.inside.rows.items c.args.server c.stands-stands.result c.self.invariant (rw c.self.view_is c.stands-stands.ensures))
