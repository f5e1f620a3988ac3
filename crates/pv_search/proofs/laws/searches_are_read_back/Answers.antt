use Rattle.pv_search.proofs.ReadBack.{search_read_back}
use Rattle.pv_search.proofs.laws.searches_are_read_back.Goals as goal

pub returns : goal.returns
returns c name cid is_name fits = search_read_back name cid is_name fits
