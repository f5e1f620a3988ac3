use Rattle.std.proofs.Common.{refl, subst}
use Rattle.board_moves.specs.Keeping.{IsTurn, KeptState}
use Rattle.board_moves.proofs.Turns.{round_turn}
use Rattle.board_moves.proofs.kept.KeptBoard.try_turn.Goals as goal

-- it isn't closed, and the board alone changed before the answer was judged
pub returns : goal.returns
returns g c =
    let old : KeptState = record { board = c.self.inside.board; closed = c.self.inside.closed; wakes = c.self.inside.wakes; rests = c.self.inside.rests } in
    let mid : KeptState = record old { board = c.round-moved.new.self } in
    record {
      turn =
          subst (λ (k : KeptState). IsTurn k c.turn_of.result c.turn_of.new.self) c.self.view_is
          (round_turn old mid c.turn_of.new.self c.turn_of.result c.round-moved.result c.if-self.false c.round-moved.ensures.round c.round-moved.ensures.kept (refl, (refl, refl)) c.turn_of.ensures.turn);
    }
