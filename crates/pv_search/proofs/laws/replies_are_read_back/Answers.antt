use Rattle.pv_search.proofs.ReadBack.{reply_read_back}
use Rattle.pv_search.proofs.laws.replies_are_read_back.Goals as goal

pub returns : goal.returns
returns c port cids p all = reply_read_back port cids p all
