use Rattle.link_table.proofs.LinkSetLemmas.{indexed_none}
use Rattle.link_table.proofs.link_set.LinkSet.new.Goals as goal

pub invariant_of-result : goal.invariant_of-result
invariant_of-result c = rw (c.new.ensures, c.new-3.ensures) (indexed_none c.new-2.result c.new-2.ensures)
