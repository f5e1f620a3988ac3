use Rattle.std.proofs.Common.{replicate, refl}
use Rattle.board_moves.proofs.Seats.{none_noted}
use Rattle.board_moves.proofs.news.News.take.Goals as goal

pub returns-clause-anew : goal.returns-clause-anew
returns-clause-anew c = λ seat. none_noted (replicate 32 0) seat refl
