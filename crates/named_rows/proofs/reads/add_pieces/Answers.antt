use Rattle.std.proofs.Common.{◌++◌, ◌+◌, drop, map, sym, ap, ◌∙◌}
use Rattle.std.proofs.lemmas.List.{append_assoc}
use Rattle.row_index.specs.Pieces.{joined}
use Rattle.named_rows.specs.Indexes.{read_in, read_key, rows_at}
use Rattle.named_rows.proofs.Joined.{read_joined}
use Rattle.named_rows.proofs.reads.add_pieces.Goals as goal

pub loop-piece-preserved : goal.loop-piece-preserved
loop-piece-preserved c =
    let at = c.loop-piece in
    rw (c.in_ok-add_at.ensures.added, c.as_slice.ensures) (
    append_assoc at.reads.items (map read_in (rows_at read_key c.args.rows.now.rows c.piece-item.result)) (map read_in (rows_at read_key c.args.rows.now.rows (joined (drop (at.piece-index + 1) c.args.pieces.now))))
    ∙ ap (λ more. at.reads.items ++ more) (sym (read_joined read_key c.args.rows.now.rows read_in c.args.pieces.now at.piece-index c.piece-item.result c.piece-item.is c.loop-piece-test.true))
    ∙ at.invariant
    )
