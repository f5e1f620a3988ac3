use Rattle.std.proofs.Common.{sym, ap, ◌∙◌}
use Rattle.std.specs.List.{position}
use Rattle.rows.proofs.RowLemmas.{find_is_there}
use Rattle.board_rings.specs.Attachments.{is_attachment_of}
use Rattle.board_rings.proofs.attachments.push_all.Goals as goal

pub push_all-requires : goal.push_all-requires
push_all-requires c =
    c.requires.room c.index_mut-attachment.result.now
    (find_is_there (is_attachment_of c.args.dest) c.args.rows.now.items c.in-Some.place _ (sym (c.in-Some.ensures ∙ ap (position (is_attachment_of c.args.dest)) c.deref.ensures.value)) c.index_mut-attachment.ensures.value)
