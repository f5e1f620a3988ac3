use Rattle.board_moves.proofs.Begun.{new_keeps}
use Rattle.board_moves.proofs.board.BoardOver.new.Goals as goal

pub invariant_of-result : goal.invariant_of-result
invariant_of-result g c = new_keeps (g.G.GatewayCalls.state c.args.gate) c.new.result c.requires.new c.new.ensures
