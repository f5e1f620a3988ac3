-- What a gate's calls do under its lock: there are a state that stood under it before, and one after, over which the answer
-- is that of the call. Which they were can't be said, since others have the lock before and after.
use Rattle.std.specs.Prelude.{◌≡◌, ℕ, ◌↔◌, ◌⊎◌, Bool, true, Option, Some, IsNone, IsOk, IsSome, IsTrue, Result, Ok, Err, IfOk, IfSome, IsErrOf, OnErr, filter, Vec, ⊤}
use Rattle.std.specs.Option.{option_map}
use Rattle.std.specs.declared.alloc.Global.{Global}
use Rattle.pv_name.specs.declared.name.Name.{Name}
use Rattle.gateway_state.specs.Asked.{must_end}
use Rattle.gateway_state.specs.Variables.{asks}
use Rattle.gateway_calls.specs.declared.fault.AskFault.{AskFault}
use Rattle.gateway_calls.specs.declared.fault.AskFault.TheVariants as asking
use Rattle.gateway_calls.specs.declared.fault.Failed.{Failed}
use Rattle.gateway_state.specs.Gateway.{Gateway}
use Rattle.gateway_state.specs.declared.event.Dest.{Dest}
use Rattle.gateway_state.specs.declared.event.Event.{Event}
use Rattle.board_rings.specs.Attachments.{attachment_of, is_attached, is_not_attachment_of}
use Rattle.board_rings.specs.Rings.{EndsState, InletState, OutletState}
use Rattle.board_rings.specs.declared.attachment.TheConstants.{RING_SIZE}
use Rattle.board_rings.specs.Calls.{Attaches}
use Rattle.board_moves.specs.Answers.{ends_of, IsDesk, IsWaiting}
use Rattle.board_moves.specs.Noted.{bare}
use Rattle.board_moves.specs.Keeping.{IsBatchTurn, IsTurn, KeptState, SameBeside, WakesBeside}
use Rattle.board_moves.specs.declared.fault.BoardFault.{BoardFault}
use Rattle.board_moves.specs.declared.fault.BoardFault.TheVariants as faults
use Rattle.board_moves.specs.declared.news.Traffic.{Traffic}
use Rattle.board_moves.specs.declared.turn.Turn.{Turn}
use Rattle.gate_board.specs.declared.gate.Arrears.{Arrears}

-- an event was handed in
abbrev pub IsDesked : Event → Result ⊤ BoardFault → Type 0
IsDesked event answer = (old : KeptState) × ((new : KeptState) × (IsDesk event (bare old.board) answer (bare new.board) × WakesBeside old new))

-- a connection got two rings, or none; the fault that it has some already comes exactly where that is so
abbrev pub IsAttached : Dest → Result (InletState × OutletState) BoardFault → Type 0
IsAttached dest answer =
    (old : KeptState)
    × ((new : KeptState)
    × (IfOk answer (λ r. Attaches dest r.0.ring r.1.ring RING_SIZE (bare old.board) (bare new.board)) × (OnErr answer (new.board ≡ old.board)
    × ((IsErrOf answer faults.Attached ↔ (is_attached dest old.board.attachments ≡ true)) × WakesBeside old new))))

-- a connection's rings were taken off
abbrev pub IsRetired : Dest → Option EndsState → Type 0
IsRetired dest answer =
    (old : KeptState)
    × ((new : KeptState)
    × ((answer ≡ option_map ends_of (attachment_of dest old.board.attachments))
    × ((new.board.rows ≡ old.board.rows) × (new.board.attachments ≡ filter (is_not_attachment_of dest) old.board.attachments))))

-- a question about the rows was answered, or the gateway had failed
abbrev pub IsAnswered : {A : Type 0} → (Gateway → A) → Result A Failed → Type 0
IsAnswered f answer =
    (kept : KeptState) × (IfOk answer (λ x. Some x ≡ option_map f kept.board.rows) × (IsOk answer ↔ IsSome kept.board.rows))

-- what waits for a connection was counted
abbrev pub IsWeighed : Dest → Result ℕ Failed → Type 0
IsWeighed dest answer = (old : KeptState) × ((new : KeptState) × (IsWaiting dest (bare old.board) answer (bare new.board) × SameBeside old new))

abbrev pub waiting_of : Result Arrears Failed → Result ℕ Failed
waiting_of (Ok arrears) = Ok arrears.waiting
waiting_of (Err failed) = Err failed

-- whether a connection must end was told, and what waits for it counted, in one state
abbrev pub AreArrears : Dest → Result Arrears Failed → Type 0
AreArrears dest answer =
    (old : KeptState)
    × ((new : KeptState)
    × (IsWaiting dest (bare old.board) (waiting_of answer) (bare new.board)
    × (IfOk answer (λ arrears. Some arrears.must_end ≡ option_map (λ w. must_end w dest) new.board.rows) × SameBeside old new)))

-- how many messages went through was told
abbrev pub IsTraffic : Traffic → Type 0
IsTraffic answer = (kept : KeptState) × (answer ≡ kept.board.news.traffic)

-- a round, or a batch
abbrev pub IsTurned : Turn → Type 0
IsTurned answer = (old : KeptState) × ((new : KeptState) × IsTurn old (Some answer) new)

abbrev pub IsBatched : Turn → Type 0
IsBatched answer = (old : KeptState) × ((new : KeptState) × IsBatchTurn old (Some answer) new)

-- what a client's datagram comes to; and the names to ask servers for
abbrev pub IsSearchedIn : {A : Type 0} → (Gateway → A → Type 0) → Result A AskFault → Type 0
IsSearchedIn finds answer =
    (kept : KeptState) × (IfOk answer (λ x. IfSome kept.board.rows (λ w. finds w x)) × (IsErrOf answer asking.Failed ↔ IsNone kept.board.rows))

abbrev pub AreAsks : Result (Vec Name Global) AskFault → Type 0
AreAsks answer =
    (kept : KeptState) × (IfOk answer (λ names. Some names.items ≡ option_map asks kept.board.rows) × (IsErrOf answer asking.Failed ↔ IsNone kept.board.rows))

-- whether it is closed, or its gateway has failed
abbrev pub HasStopped : KeptState → Type 0
HasStopped kept = (kept.closed ≡ true) ⊎ IsNone kept.board.rows

-- it goes on exactly where it hasn't stopped
abbrev pub IsWoken : Bool → Type 0
IsWoken goes_on = (kept : KeptState) × (IsTrue goes_on ↔ (HasStopped kept → ⊥))
