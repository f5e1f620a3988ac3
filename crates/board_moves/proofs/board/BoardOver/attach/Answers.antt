use Rattle.std.proofs.Common.{sym, ◌∙◌}
use Rattle.board_moves.proofs.Keeps.{attach_keeps}
use Rattle.board_moves.proofs.board.BoardOver.attach.Goals as goal

pub invariant_of-self : goal.invariant_of-self
invariant_of-self g c =
    attach_keeps c.args.dest (g.G.GatewayCalls.state c.self.inside.gate) c.self.inside.attachments c.attach.new.self c.attach.result c.attach.ensures.ok c.attach.ensures.err (sym c.is_attached.ensures ∙ c.if-is_attached.false) c.self.invariant
