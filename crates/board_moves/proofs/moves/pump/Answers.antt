use Rattle.std.proofs.Common.{◌∙◌, sym}
use Rattle.board_moves.proofs.Moved.{pumped_nobody}
use Rattle.board_moves.proofs.moves.pump.Goals as goal

-- who isn't attached has no ring to look into
pub returns-then-not-is_attached-clause-pump : goal.returns-then-not-is_attached-clause-pump
returns-then-not-is_attached-clause-pump g c =
    pumped_nobody c.args.dest (g.G.GatewayCalls.state c.args.gate.now) c.args.attachments.now (sym c.is_attached.ensures ∙ search)
