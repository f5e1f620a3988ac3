use Rattle.board_moves.proofs.Keeps.{round_keeps}
use Rattle.board_moves.proofs.board.BoardOver.round.Goals as goal

-- each of its calls leaves the board with a history
pub invariant_of-self : goal.invariant_of-self
invariant_of-self g c = round_keeps _ _ _ c.round.ensures.round c.self.invariant
