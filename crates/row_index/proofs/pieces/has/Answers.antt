use Rattle.std.proofs.Common.{arith}
use Rattle.row_index.proofs.InPieces.{has_there, has_past}
use Rattle.row_index.proofs.pieces.has.Goals as goal

pub returns-in-Some : goal.returns-in-Some
returns-in-Some c =
    let read = c.in-Some.ensures.lookup in
    rw c.contains.ensures.value (rw c.as_slice.ensures (has_there c.args.key c.args.n c.args.pieces.now c.in-Some.piece.now read.1 read.3.0))

pub returns-in-None : goal.returns-in-None
returns-in-None c = has_past c.args.key c.args.n c.args.pieces.now (omega (arith, c.in-None.ensures.lookup))
