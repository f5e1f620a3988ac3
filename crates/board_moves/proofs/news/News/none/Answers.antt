use Rattle.std.proofs.Common.{replicate, refl}
use Rattle.board_moves.proofs.Seats.{none_noted}
use Rattle.board_moves.proofs.news.News.none.Goals as goal

pub returns-clause-nothing : goal.returns-clause-nothing
returns-clause-nothing c = λ seat. none_noted (replicate 32 0) seat refl
