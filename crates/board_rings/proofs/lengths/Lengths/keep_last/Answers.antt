use Rattle.std.proofs.Common.{ap, ◌∙◌, drop, drop-drop}
use Rattle.board_rings.proofs.lengths.Lengths.keep_last.Goals as goal

-- one more was taken off
pub loop-preserved : goal.loop-preserved
loop-preserved c = c.drop_first.ensures ∙ ap (drop 1) c.loop.invariant ∙ drop-drop 1 c.loop.counter c.args.self.now
