use Rattle.board_moves.proofs.Keeps.{batch_keeps}
use Rattle.board_moves.proofs.board.BoardOver.batch.Goals as goal

-- each of its rounds leaves the board with a history
pub invariant_of-self : goal.invariant_of-self
invariant_of-self g c = batch_keeps _ _ _ c.batch.ensures.batch c.self.invariant
