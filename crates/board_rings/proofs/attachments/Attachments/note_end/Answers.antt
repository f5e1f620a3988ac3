use Rattle.std.proofs.Common.{refl, ap, ◌∙◌}
use Rattle.board_rings.specs.Attachments.{are_in_order, is_attachment_of, with_leaving}
use Rattle.board_rings.proofs.AttachmentOrder.{changed_in_order}
use Rattle.board_rings.proofs.attachments.Attachments.note_end.Goals as goal

pub invariant_of-self : goal.invariant_of-self
invariant_of-self c =
    ap are_in_order c.note_end.ensures
    ∙ changed_in_order (is_attachment_of c.args.dest) with_leaving (λ attachment. refl) _
    ∙ c.self.invariant
