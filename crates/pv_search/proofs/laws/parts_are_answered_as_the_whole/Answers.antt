use Rattle.std.proofs.Common.{IsTrue}
use Rattle.pv_search.proofs.PartAnswers.{parts-answered}
use Rattle.pv_search.proofs.laws.parts_are_answered_as_the_whole.Goals as goal

pub returns : goal.returns
returns c allowed datagram most port parts fits some are = parts-answered (λ name passes. IsTrue (allowed name passes)) datagram most port parts fits some are
