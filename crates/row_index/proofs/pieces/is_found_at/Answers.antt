use Rattle.std.proofs.Common.{sym, ap, ◌∙◌}
use Rattle.std.specs.List.{list_any}
use Rattle.row_index.specs.Lists.{is_key}
use Rattle.row_index.proofs.InPieces.{has_there}
use Rattle.row_index.proofs.pieces.is_found_at.Goals as goal

pub returns-in-Some : goal.returns-in-Some
returns-in-Some c =
    let read = c.in-Some.ensures.lookup in
    λ found. sym (has_there c.args.key c.args.n c.args.pieces.now c.in-Some.piece.now read.1 read.3.0)
    ∙ ap (list_any (is_key c.args.key)) (sym c.as_slice.ensures) ∙ c.is_found.ensures found
