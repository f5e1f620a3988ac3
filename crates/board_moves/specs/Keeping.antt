-- What stands under a gate's lock, and what each call does to it.
use Rattle.std.specs.Prelude.{◌≡◌, ℕ, zero, suc, ◌+◌, ◌%◌, ◌^◌, ◌<◌, Bool, true, false, not, ◌||◌, ◌==◌, Option, Some, None, Result, Ok, Err}
use Rattle.gateway_state.specs.Asked.{is_open, must_end, queued}
use Rattle.gateway_state.specs.Gateway.{Gateway}
use Rattle.gateway_state.specs.declared.event.Dest.{Dest}
use Rattle.board_moves.specs.Noted.{has_left_nothing, NotedBoard, StayNoted}
use Rattle.board_moves.specs.Rounds.{IsBatch, IsRound}
use Rattle.board_moves.specs.declared.fault.BoardFault.{BoardFault}
use Rattle.board_moves.specs.declared.turn.Turn.{Turn}
use Rattle.board_moves.specs.declared.turn.Turn.TheVariants.{Moved, Closed, Failed}

-- the board, whether the gate is closed, how often it woke, and whether it rests: a turn left nothing to be moved before it
-- wakes again
pub record KeptState : Type 0 where
  pub board : NotedBoard
  pub closed : Bool
  pub wakes : ℕ
  pub rests : Bool

-- one wake more. The count begins anew past the largest number
abbrev pub one_more : ℕ → ℕ
one_more wakes = (wakes + 1) % 2 ^ 64

abbrev pub woken : KeptState → KeptState
woken kept = record kept { wakes = one_more kept.wakes; rests = false }

-- all but the board is as before
abbrev pub SameBeside : KeptState → KeptState → Type 0
SameBeside old new = (new.closed ≡ old.closed) × ((new.wakes ≡ old.wakes) × (new.rests ≡ old.rests))

-- the mark is as before, and it woke once
abbrev pub WakesBeside : KeptState → KeptState → Type 0
WakesBeside old new = (new.closed ≡ old.closed) × ((new.wakes ≡ one_more old.wakes) × (new.rests ≡ false))

-- the connection's messages come to an end: it doesn't stand, or must end, or the gateway has failed
abbrev pub is_over : Dest → Option Gateway → Bool
is_over dest None = true
is_over dest (Some w) = not (is_open w dest) || must_end w dest

-- messages wait for the connection
abbrev pub has_waiting : Dest → Option Gateway → Bool
has_waiting dest None = false
has_waiting dest (Some w) = not (queued w dest == 0)

-- it woke once, and rests where the board's last round left nothing
abbrev pub moved_on : KeptState → KeptState
moved_on kept = record kept { wakes = one_more kept.wakes; rests = has_left_nothing kept.board }

-- what an answer of the board comes to, which counts a wake unless nothing was moved
abbrev pub ComesTo : Result ℕ BoardFault → KeptState → Option Turn → KeptState → Type 0
ComesTo (Ok zero) old turn new = (turn ≡ None) × (new ≡ old)
ComesTo (Ok (suc count)) old turn new = (turn ≡ Some Moved) × (new ≡ moved_on old)
ComesTo (Err fault) old turn new = (turn ≡ Some Failed) × (new ≡ woken old)

-- something was moved: it woke once, and rests where nothing was left
abbrev pub MovesBeside : KeptState → KeptState → Type 0
MovesBeside old new = (new.closed ≡ old.closed) × ((new.wakes ≡ one_more old.wakes) × (new.rests ≡ has_left_nothing new.board))

-- calls of the board that moved something, moved nothing or met a fault; or it is closed
abbrev pub IsTurnBy : (NotedBoard → Result ℕ BoardFault → NotedBoard → Type 0) → KeptState → Option Turn → KeptState → Type 0
IsTurnBy moves old None new = (old.closed ≡ false) × (moves old.board (Ok 0) new.board × SameBeside old new)
IsTurnBy moves old (Some Moved) new = (old.closed ≡ false) × ((count : ℕ) × ((0 < count) × (moves old.board (Ok count) new.board × MovesBeside old new)))
IsTurnBy moves old (Some Failed) new = (old.closed ≡ false) × ((fault : BoardFault) × (moves old.board (Err fault) new.board × WakesBeside old new))
IsTurnBy moves old (Some Closed) new = (old.closed ≡ true) × (new ≡ woken old)

-- one round. Whoever was to be told still is
abbrev pub IsNotedRound : NotedBoard → Result ℕ BoardFault → NotedBoard → Type 0
IsNotedRound old answer new = IsRound old answer new × StayNoted old.news new.news

abbrev pub IsTurn : KeptState → Option Turn → KeptState → Type 0
IsTurn old turn new = IsTurnBy IsNotedRound old turn new

-- one batch
abbrev pub IsNotedBatch : NotedBoard → Result ℕ BoardFault → NotedBoard → Type 0
IsNotedBatch old answer new = IsBatch old answer new × StayNoted old.news new.news

abbrev pub IsBatchTurn : KeptState → Option Turn → KeptState → Type 0
IsBatchTurn old turn new = IsTurnBy IsNotedBatch old turn new
