use Rattle.link_table.proofs.CidLemmas.{in_order_of_cids}
use Rattle.link_table.proofs.laws.links_stand_by_cid.Goals as goal

pub returns : goal.returns
returns c = λ links low n rise. in_order_of_cids n low links rise
