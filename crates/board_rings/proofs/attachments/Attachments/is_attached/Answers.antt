use Rattle.std.proofs.Common.{is_some, ap, ◌∙◌}
use Rattle.board_rings.proofs.AttachmentOrder.{placed_where_attached}
use Rattle.board_rings.proofs.attachments.Attachments.is_attached.Goals as goal

pub returns : goal.returns
returns c = c.is_some.ensures ∙ ap is_some c.place_of.ensures ∙ placed_where_attached c.args.dest c.args.self.now
