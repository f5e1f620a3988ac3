use Rattle.std.proofs.Common.{◌∙◌}
use Rattle.std.proofs.lemmas.List.{append-nil}
use Rattle.row_index.proofs.InPieces.{joined_more}
use Rattle.row_index.proofs.tall_keys.close.Goals as goal

-- nothing is left behind the new piece
pub returns-in-Ok-clause-same : goal.returns-in-Ok-clause-same
returns-in-Ok-clause-same c =
    rw (c.in-Ok.ensures.items, c.replace-piece.ensures.after, c.new.ensures, c.replace-piece.ensures.value) (append-nil _ ∙ joined_more c.args.pieces.now.items c.args.last.now)
