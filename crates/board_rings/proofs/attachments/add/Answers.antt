use Rattle.std.proofs.Common.{◌≡◌, sym, subst, rules}
use Rattle.std.specs.List.{insert}
use Rattle.board_rings.specs.Attachments.{IsWith}
use Rattle.board_rings.proofs.AttachmentOrder.{with_one_more}
use Rattle.board_rings.proofs.attachments.add.Goals as goal

pub returns : goal.returns
returns c =
    let at = rw (c.dest.ensures, c.deref.ensures.value) at c.place_for-place.ensures.place in
    let within = rw c.deref.ensures.value at c.place_for-place.ensures.within in
    let is : c.insert.new.self.items ≡ insert c.args.rows.now.items c.place_for-place.result c.args.attachment = search rules in
    subst (IsWith c.args.attachment c.args.rows.now.items) (sym is)
    (with_one_more c.args.rows.now.items _ c.args.attachment c.requires.order at within c.requires.new)
