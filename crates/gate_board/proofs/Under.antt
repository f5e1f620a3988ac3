-- The states under the lock, for the answers of calls.
use Rattle.std.proofs.Common.{◌≡◌, ℕ, Bool, true, false, Option, Some, Result, Ok, Err, refl, subst, sym}
use Rattle.std.specs.Prelude.{◌↔◌, IfOk, IfSome, IsErrOf, IsNone, IsOk, IsSome, IsTrue, OnErr, filter, not, Vec, ⊤}
use Rattle.std.specs.Option.{option_map}
use Rattle.std.specs.declared.alloc.Global.{Global}
use Rattle.pv_name.specs.declared.name.Name.{Name}
use Rattle.gateway_state.specs.Asked.{must_end}
use Rattle.gateway_state.specs.Variables.{asks}
use Rattle.gateway_calls.specs.declared.fault.AskFault.{AskFault}
use Rattle.gateway_calls.specs.declared.fault.AskFault.TheVariants as asking
use Rattle.gateway_calls.specs.declared.fault.Failed.{Failed}
use Rattle.gateway_state.specs.Gateway.{Gateway}
use Rattle.gateway_state.specs.declared.event.Dest.{Dest}
use Rattle.gateway_state.specs.declared.event.Event.{Event}
use Rattle.board_rings.specs.Attachments.{attachment_of, is_attached, is_not_attachment_of}
use Rattle.board_rings.specs.Rings.{EndsState, InletState, OutletState}
use Rattle.board_rings.specs.declared.attachment.TheConstants.{RING_SIZE}
use Rattle.board_rings.specs.Calls.{Attaches}
use Rattle.board_moves.specs.Answers.{ends_of, IsDesk, IsWaiting}
use Rattle.board_moves.specs.Noted.{bare}
use Rattle.board_moves.specs.Keeping.{IsBatchTurn, IsTurn, KeptState, SameBeside, WakesBeside}
use Rattle.board_moves.specs.declared.fault.BoardFault.{BoardFault}
use Rattle.board_moves.specs.declared.fault.BoardFault.TheVariants as faults
use Rattle.board_moves.specs.declared.news.Traffic.{Traffic}
use Rattle.board_moves.specs.declared.turn.Turn.{Turn}
use Rattle.gate_board.specs.declared.gate.Arrears.{Arrears}
use Rattle.gate_board.specs.Locked.{AreAsks, HasStopped, IsAnswered, IsAttached, IsBatched, IsDesked, IsRetired, IsSearchedIn, IsTraffic, AreArrears, IsTurned, IsWeighed, IsWoken}

pub desked : (event : Event) (answer : Result ⊤ BoardFault) (old new : KeptState) → IsDesk event (bare old.board) answer (bare new.board) → WakesBeside old new → IsDesked event answer
desked event answer old new desk wakes = (old, (new, (desk, wakes)))

pub attached : (dest : Dest) (answer : Result (InletState × OutletState) BoardFault) (old new : KeptState) → IfOk answer (λ r. Attaches dest r.0.ring r.1.ring RING_SIZE (bare old.board) (bare new.board))
    → OnErr answer (new.board ≡ old.board) → (IsErrOf answer faults.Attached ↔ (is_attached dest old.board.attachments ≡ true)) → WakesBeside old new → IsAttached dest answer
attached dest answer old new ok err there wakes = (old, (new, (ok, (err, (there, wakes)))))

pub retired : (dest : Dest) (answer : Option EndsState) (old new : KeptState) → answer ≡ option_map ends_of (attachment_of dest old.board.attachments)
    → new.board.rows ≡ old.board.rows → new.board.attachments ≡ filter (is_not_attachment_of dest) old.board.attachments → IsRetired dest answer
retired dest answer old new found rows rest = (old, (new, (found, (rows, rest))))

pub answered : {A : Type 0} (f : Gateway → A) (answer : Result A Failed) (kept : KeptState) → IfOk answer (λ x. Some x ≡ option_map f kept.board.rows) → (IsOk answer ↔ IsSome kept.board.rows) → IsAnswered f answer
answered f answer kept found failed = (kept, (found, failed))

pub searched : {A : Type 0} (finds : Gateway → A → Type 0) (answer : Result A AskFault) (kept : KeptState) → IfOk answer (λ x. IfSome kept.board.rows (λ w. finds w x)) → (IsErrOf answer asking.Failed ↔ IsNone kept.board.rows) → IsSearchedIn finds answer
searched finds answer kept found failed = (kept, (found, failed))

pub asked : (answer : Result (Vec Name Global) AskFault) (kept : KeptState) → IfOk answer (λ names. Some names.items ≡ option_map asks kept.board.rows) → (IsErrOf answer asking.Failed ↔ IsNone kept.board.rows) → AreAsks answer
asked answer kept found failed = (kept, (found, failed))

pub weighed : (dest : Dest) (answer : Result ℕ Failed) (old new : KeptState) → IsWaiting dest (bare old.board) answer (bare new.board) → SameBeside old new → IsWeighed dest answer
weighed dest answer old new waits same = (old, (new, (waits, same)))

pub arrears_so : (dest : Dest) (arrears : Arrears) (old new : KeptState) → IsWaiting dest (bare old.board) (Ok arrears.waiting) (bare new.board) → SameBeside old new
    → Some arrears.must_end ≡ option_map (λ w. must_end w dest) new.board.rows → AreArrears dest (Ok arrears)
arrears_so dest arrears old new waits beside ends = (old, (new, (waits, (ends, beside))))

pub failed_so : (dest : Dest) (failed : Failed) (old new : KeptState) → IsWaiting dest (bare old.board) (Err failed) (bare new.board) → SameBeside old new → AreArrears dest (Err failed)
failed_so dest failed old new waits beside = (old, (new, (waits, (tt, beside))))

pub told : (answer : Traffic) (kept : KeptState) → answer ≡ kept.board.news.traffic → IsTraffic answer
told answer kept is = (kept, is)

pub turned : (answer : Turn) (old new : KeptState) (turn : Option Turn) → turn ≡ Some answer → IsTurn old turn new → IsTurned answer
turned answer old new turn is turns = (old, (new, subst (λ (t : Option Turn). IsTurn old t new) is turns))

pub batched : (answer : Turn) (old new : KeptState) (turn : Option Turn) → turn ≡ Some answer → IsBatchTurn old turn new → IsBatched answer
batched answer old new turn is turns = (old, (new, subst (λ (t : Option Turn). IsBatchTurn old t new) is turns))

by_not : (stopped : Bool) (P : Type 0) → (IsTrue stopped ↔ P) → IsTrue (not stopped) ↔ (P → ⊥)
by_not true P is = (λ wrong. absurd cc, λ none. absurd (none (is.0 refl)))
by_not false P is = (λ _ stops. absurd (let wrong : false ≡ true = is.1 stops in cc), λ _. refl)

pub woken_so : (goes_on stopped : Bool) (kept : KeptState) → goes_on ≡ not stopped → (IsTrue stopped ↔ HasStopped kept) → IsWoken goes_on
woken_so goes_on stopped kept is stops = (kept, subst (λ (b : Bool). IsTrue b ↔ (HasStopped kept → ⊥)) (sym is) (by_not stopped (HasStopped kept) stops))
