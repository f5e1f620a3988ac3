use Rattle.std.proofs.Common.{◌++◌, ◌+◌, drop, sym, ap, ◌∙◌}
use Rattle.std.proofs.lemmas.List.{append_assoc}
use Rattle.row_index.specs.Pieces.{joined}
use Rattle.named_rows.specs.Indexes.{rows_at, sub_key}
use Rattle.named_rows.proofs.Joined.{first_joined}
use Rattle.named_rows.proofs.subs.list_pieces.Goals as goal

pub loop-piece-preserved : goal.loop-piece-preserved
loop-piece-preserved c =
    let at = c.loop-piece in
    rw (c.in_ok-list_at.ensures.listed, c.as_slice.ensures) (
    append_assoc at.subs.items (rows_at sub_key c.args.rows.now.rows c.piece-item.result) (rows_at sub_key c.args.rows.now.rows (joined (drop (at.piece-index + 1) c.args.pieces.now)))
    ∙ ap (λ more. at.subs.items ++ more) (sym (first_joined sub_key c.args.rows.now.rows c.args.pieces.now at.piece-index c.piece-item.result c.piece-item.is c.loop-piece-test.true))
    ∙ at.invariant
    )
