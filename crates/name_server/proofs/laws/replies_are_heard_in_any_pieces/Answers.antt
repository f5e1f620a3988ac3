use Rattle.name_server.proofs.Joined.{picked_in_pieces}
use Rattle.name_server.proofs.laws.replies_are_heard_in_any_pieces.Goals as goal

pub returns : goal.returns
returns c = λ heard left are. picked_in_pieces heard left are
