use Rattle.link_table.proofs.LinkSetLemmas.{ids_apart}
use Rattle.link_table.proofs.link_set.LinkSet.has_ids_apart.Goals as goal

pub returns : goal.returns
returns c = rw (← c.self.view_is) (ids_apart c.self.inside.rows c.self.inside.by_name c.self.inside.leads c.self.invariant)
