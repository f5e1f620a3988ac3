use Rattle.std.proofs.Common.{refl}
use Rattle.board_moves.proofs.Keeps.{retire_keeps}
use Rattle.board_moves.specs.Answers.{board_of}
use Rattle.board_moves.proofs.board.BoardOver.retire.Goals as goal

pub invariant_of-self : goal.invariant_of-self
invariant_of-self g c =
    retire_keeps c.args.dest (board_of (g.G.GatewayCalls.state c.self.inside.gate) c.self.inside.attachments) (board_of (g.G.GatewayCalls.state c.self.inside.gate) c.retire.new.self) refl c.retire.ensures.rest c.self.invariant
