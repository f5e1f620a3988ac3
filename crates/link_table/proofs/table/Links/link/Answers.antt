use Rattle.std.proofs.Common.{sym, ◌∙◌}
use Rattle.link_table.proofs.CidLemmas.{in_order_of_cids}
use Rattle.link_table.proofs.table.Links.link.Goals as goal

pub returns-clause-by_cid : goal.returns-clause-by_cid
returns-clause-by_cid c = rw (← c.self.view_is) (λ rise. c.link.ensures ∙ sym (in_order_of_cids c.args.n 0 c.self.inside.links rise))
