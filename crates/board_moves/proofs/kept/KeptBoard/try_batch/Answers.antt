use Rattle.std.proofs.Common.{refl, subst}
use Rattle.board_moves.specs.Keeping.{IsBatchTurn, KeptState}
use Rattle.board_moves.proofs.Turns.{batch_turn}
use Rattle.board_moves.proofs.kept.KeptBoard.try_batch.Goals as goal

-- it isn't closed, and the board alone changed before the answer was judged
pub returns : goal.returns
returns g c =
    let old : KeptState = record { board = c.self.inside.board; closed = c.self.inside.closed; wakes = c.self.inside.wakes; rests = c.self.inside.rests } in
    let mid : KeptState = record old { board = c.batch-moved.new.self } in
    record {
      turn =
          subst (λ (k : KeptState). IsBatchTurn k c.turn_of.result c.turn_of.new.self) c.self.view_is
          (batch_turn old mid c.turn_of.new.self c.turn_of.result c.batch-moved.result c.if-self.false c.batch-moved.ensures.batch c.batch-moved.ensures.kept (refl, (refl, refl)) c.turn_of.ensures.turn);
    }
