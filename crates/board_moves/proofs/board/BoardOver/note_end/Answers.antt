use Rattle.std.proofs.Common.{refl}
use Rattle.board_moves.proofs.Keeps.{ended_keeps}
use Rattle.board_moves.specs.Answers.{board_of}
use Rattle.board_moves.proofs.board.BoardOver.note_end.Goals as goal

pub invariant_of-self : goal.invariant_of-self
invariant_of-self g c =
    ended_keeps c.args.dest (board_of (g.G.GatewayCalls.state c.self.inside.gate) c.self.inside.attachments) (board_of (g.G.GatewayCalls.state c.self.inside.gate) c.note_end.new.self) refl c.note_end.ensures c.self.invariant
