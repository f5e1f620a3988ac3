use Rattle.std.proofs.Common.{ap, ◌∙◌}
use Rattle.board_rings.specs.Attachments.{are_in_order, is_not_attachment_of}
use Rattle.board_rings.proofs.AttachmentOrder.{rest_in_order}
use Rattle.board_rings.proofs.attachments.Attachments.retire.Goals as goal

pub invariant_of-self : goal.invariant_of-self
invariant_of-self c = ap are_in_order c.retire.ensures.rest ∙ rest_in_order (is_not_attachment_of c.args.dest) _ c.self.invariant
