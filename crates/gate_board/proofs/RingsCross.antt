-- The ends of rings may go to another thread.
use denote.Param.Send.{IsSend, sendable}
use Rattle.std.proofs.Crossing.{crosses, send}
use Rattle.board_rings.specs.contracts.ends.Inlet as inlet
use Rattle.board_rings.specs.contracts.ends.Outlet as outlet
use Rattle.board_rings.specs.contracts.attachment.Attachment as attachment
use Rattle.board_rings.specs.contracts.attachments.Attachments as attachments
use Rattle.board_rings.specs.contracts.inbound.Inbound as inbound
use Rattle.board_rings.specs.contracts.lengths.Lengths as lengths
use Rattle.rtrb.proofs.end.End.TheSendSync as end
use Rattle.boxcar.proofs.tag.Tag.TheSendSync as tag
use Rattle.gate_board.proofs.PartsCross.{out_send, bytes_cross}

pub inbound_send : IsSend inbound.the_row
inbound_send = search (sendable, bytes_cross) depth 40 fits 5000

pub inlet_send : IsSend inlet.the_row
inlet_send = search (sendable, crosses, send, end.the_send, tag.the_send, inbound_send) depth 60 fits 20000

pub outlet_send : IsSend outlet.the_row
outlet_send = search (sendable, crosses, send, end.the_send, tag.the_send, out_send) depth 60 fits 20000

lengths_send : IsSend lengths.the_row
lengths_send = search (sendable, crosses) depth 60 fits 20000

attachment_send : IsSend attachment.the_row
attachment_send = search (sendable, crosses, send, end.the_send, tag.the_send, out_send, inbound_send, lengths_send) depth 60 fits 20000

pub attachments_send : IsSend attachments.the_row
attachments_send = search (sendable, crosses, attachment_send) depth 60 fits 20000
