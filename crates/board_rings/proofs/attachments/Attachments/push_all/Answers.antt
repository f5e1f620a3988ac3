use Rattle.std.proofs.Common.{refl, ap, ◌∙◌}
use Rattle.board_rings.specs.Attachments.{are_in_order, is_attachment_of, with_pushed}
use Rattle.board_rings.proofs.AttachmentOrder.{changed_in_order}
use Rattle.board_rings.proofs.attachments.Attachments.push_all.Goals as goal

pub invariant_of-self : goal.invariant_of-self
invariant_of-self c =
    ap are_in_order c.push_all.ensures
    ∙ changed_in_order (is_attachment_of c.args.dest) (with_pushed c.args.outs.items) (λ attachment. refl) _
    ∙ c.self.invariant
