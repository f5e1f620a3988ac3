-- What a round or a batch comes to.
use Rattle.std.proofs.Common.{◌≡◌, ℕ, zero, suc, ◌<◌, false, Option, None, Some, Result, Ok, Err, refl, sym, ap, subst, arith}
use Rattle.board_moves.specs.Keeping.{one_more, ComesTo, IsBatchTurn, IsNotedBatch, IsNotedRound, IsTurn, IsTurnBy, KeptState, SameBeside}
use Rattle.board_moves.specs.Noted.{NotedBoard, StayNoted}
use Rattle.board_moves.specs.Rounds.{IsBatch, IsRound}
use Rattle.board_moves.specs.declared.fault.BoardFault.{BoardFault}
use Rattle.board_moves.specs.declared.turn.Turn.{Turn}
use Rattle.board_moves.specs.declared.turn.Turn.TheVariants.{Moved, Failed}

module _ (moves : NotedBoard → Result ℕ BoardFault → NotedBoard → Type 0) (old mid new : KeptState) (turn : Option Turn) where
  turn_by : (answer : Result ℕ BoardFault) → old.closed ≡ false → moves old.board answer mid.board → SameBeside old mid → ComesTo answer mid turn new → IsTurnBy moves old turn new
  turn_by (Ok zero) stays_open moved same (is, now) =
      subst (λ (t : Option Turn). IsTurnBy moves old t new) (sym is) (subst (λ (k : KeptState). IsTurnBy moves old None k) (sym now) (stays_open, (moved, same)))
  turn_by (Ok (suc count)) stays_open moved same (is, now) =
      let some : 0 < suc count = omega arith in
      subst (λ (t : Option Turn). IsTurnBy moves old t new) (sym is)
      (subst (λ (k : KeptState). IsTurnBy moves old (Some Moved) k) (sym now) (stays_open, (suc count, (some, (moved, (same.0, (ap one_more same.1.0, refl)))))))
  turn_by (Err fault) stays_open moved same (is, now) =
      subst (λ (t : Option Turn). IsTurnBy moves old t new) (sym is)
      (subst (λ (k : KeptState). IsTurnBy moves old (Some Failed) k) (sym now) (stays_open, (fault, (moved, (same.0, (ap one_more same.1.0, refl))))))

pub round_turn : (old mid new : KeptState) (turn : Option Turn) (answer : Result ℕ BoardFault) → old.closed ≡ false → IsRound old.board answer mid.board → StayNoted old.board.news mid.board.news → SameBeside old mid → ComesTo answer mid turn new → IsTurn old turn new
round_turn old mid new turn answer stays_open moved kept same comes = turn_by IsNotedRound old mid new turn answer stays_open (moved, kept) same comes

pub batch_turn : (old mid new : KeptState) (turn : Option Turn) (answer : Result ℕ BoardFault) → old.closed ≡ false → IsBatch old.board answer mid.board → StayNoted old.board.news mid.board.news → SameBeside old mid → ComesTo answer mid turn new → IsBatchTurn old turn new
batch_turn old mid new turn answer stays_open moved kept same comes = turn_by IsNotedBatch old mid new turn answer stays_open (moved, kept) same comes
