use Rattle.board_rings.proofs.AttachmentOrder.{received_in_order}
use Rattle.board_rings.proofs.attachments.Attachments.receive.Goals as goal

pub invariant_of-self : goal.invariant_of-self
invariant_of-self c =
    received_in_order c.args.dest _ _ c.receive.result c.self.invariant c.receive.ensures.some c.receive.ensures.none
