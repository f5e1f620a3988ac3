use Rattle.std.proofs.Common.{◌++◌, ◌+◌, drop, sym, ap, ◌∙◌}
use Rattle.std.proofs.lemmas.List.{append_assoc}
use Rattle.row_index.specs.Pieces.{joined}
use Rattle.row_index.proofs.InPieces.{piece_first}
use Rattle.named_rows.proofs.named_rows.add_pieces.Goals as goal

pub loop-piece-preserved : goal.loop-piece-preserved
loop-piece-preserved c =
    let at = c.loop-piece in
    let rest = joined (drop (at.piece-index + 1) c.args.pieces.now) in
    rw (c.in_ok-add_all.ensures, c.as_slice.ensures) (
    append_assoc at.keys.items c.piece-item.result rest
    ∙ ap (λ more. at.keys.items ++ more)
    (ap (λ p. p ++ rest) c.piece-item.is ∙ sym (piece_first c.args.pieces.now at.piece-index c.piece-item.result c.loop-piece-test.true))
    ∙ at.invariant
    )
