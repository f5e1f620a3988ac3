use Rattle.pv_search.specs.Found.{found_cid}
use Rattle.pv_search.specs.Search.{search_of}
use Rattle.pv_search.proofs.ReadBack.{read_in_one_way}
use Rattle.pv_search.proofs.laws.datagrams_are_read_in_one_way.Goals as goal

pub returns-clause-searches : goal.returns-clause-searches
returns-clause-searches c = λ datagram xs ys fits p q. read_in_one_way search_of datagram xs ys fits p q

pub returns-clause-replies : goal.returns-clause-replies
returns-clause-replies c = λ datagram xs ys fits p q. read_in_one_way found_cid datagram xs ys fits p q
