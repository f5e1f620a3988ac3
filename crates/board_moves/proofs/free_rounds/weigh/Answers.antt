use Rattle.board_moves.proofs.Changed.{weighed_dests, weighed_rings}
use Rattle.board_moves.proofs.free_rounds.weigh.Goals as goal

pub returns-then-is_weighed-clause-dests : goal.returns-then-is_weighed-clause-dests
returns-then-is_weighed-clause-dests g c = weighed_dests c.args.dest c.has_too_much-full.result c.args.attachments.now c.note_full.new.self c.note_full.ensures

pub returns-then-is_weighed-clause-rings : goal.returns-then-is_weighed-clause-rings
returns-then-is_weighed-clause-rings g c = weighed_rings c.args.dest c.has_too_much-full.result c.args.attachments.now c.note_full.new.self c.note_full.ensures
