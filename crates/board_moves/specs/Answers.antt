-- What each call of a board answers, and what it leaves.
use Rattle.std.specs.Prelude.{◌≡◌, ℕ, ◌+◌, ◌-◌, ◌^◌, ◌<◌, ◌⊎◌, List, length, min, true, false, Bool, Option, Some, IsSome, IsNone, Result, Ok, Err, ⊤}
use Rattle.std.specs.Option.{option_map}
use Rattle.rows.specs.Rows.{change_first}
use Rattle.fanout.specs.declared.outbox.Out.{Out}
use Rattle.gateway_calls.specs.declared.fault.Failed.{Failed}
use Rattle.gateway_calls.specs.declared.fault.StepFault.TheVariants as steps
use Rattle.gateway_state.specs.Gateway.{Gateway, initial}
use Rattle.gateway_state.specs.Asked.{queued, queued_bytes}
use Rattle.gateway_state.specs.declared.config.Config.{Config}
use Rattle.gateway_state.specs.declared.event.Dest.{Dest}
use Rattle.gateway_state.specs.declared.event.Event.{Event}
use Rattle.gateway_state.specs.declared.event.Event.TheVariants.{Drain}
use Rattle.rule_desk.specs.declared.policy.Policy.{Policy}
use Rattle.board_rings.specs.Attachments.{is_attached, is_attachment_of, rings_of, with_free, with_look_in, HasNoPlace, SeesNothing}
use Rattle.board_rings.specs.OnTheWay.{bytes_to}
use Rattle.board_rings.specs.Rings.{EndsState, AttachmentState}
use Rattle.board_rings.specs.declared.inbound.Inbound.{Inbound}
use Rattle.board_rings.specs.Board.{BoardState}
use Rattle.board_rings.specs.Calls.{DeskFails, Desks, PumpFails, Pumps, SendFails, Sends, uses_up}
use Rattle.board_rings.specs.History.{is_for_desk, item_event}
use Rattle.board_moves.specs.Share.{share}
use Rattle.board_moves.specs.declared.fault.BoardFault.{BoardFault}
use Rattle.board_moves.specs.declared.fault.BoardFault.TheVariants.{OutOfMemory, Attached, NotHere, Step}

-- a gateway's rows and attachments as a board
abbrev pub board_of : Option Gateway → List AttachmentState → BoardState
board_of rows attachments = record { rows = rows; attachments = attachments }

-- an item was received and its event performed; or a look into the ring saw none, and nothing else changed; or the step
-- was refused. A board that has failed receives nothing
abbrev pub IsPump : Dest → BoardState → Result Bool BoardFault → BoardState → Type 0
IsPump dest old (Ok true) new = (item : Inbound) × Pumps dest item old new
IsPump dest old (Ok false) new =
    (new.rows ≡ old.rows)
    × ((new.attachments ≡ change_first (is_attachment_of dest) with_look_in old.attachments)
    × (is_attached dest old.attachments ≡ true → IsSome old.rows × SeesNothing dest old.attachments))
IsPump dest old (Err (Step steps.OutOfMemory)) new = (item : Inbound) × PumpFails dest item old new
IsPump dest old (Err (Step steps.NumbersUsedUp)) new =
    (item : Inbound) × (PumpFails dest item old new × (uses_up (item_event dest item) old.rows ≡ Some true))
IsPump dest old (Err (Step steps.Failed)) new = (new ≡ old) × ((is_attached dest old.attachments ≡ true) × IsNone old.rows)
IsPump dest old (Err OutOfMemory) new = ⊥
IsPump dest old (Err Attached) new = ⊥
IsPump dest old (Err NotHere) new = ⊥

-- the event was performed; or it is none of the desk's; or the step was refused
abbrev pub IsDesk : Event → BoardState → Result ⊤ BoardFault → BoardState → Type 0
IsDesk event old (Ok done) new = Desks event old new
IsDesk event old (Err NotHere) new = (new ≡ old) × (is_for_desk event ≡ false)
IsDesk event old (Err (Step steps.OutOfMemory)) new = DeskFails old new × (is_for_desk event ≡ true)
IsDesk event old (Err (Step steps.NumbersUsedUp)) new =
    DeskFails old new × ((is_for_desk event ≡ true) × (uses_up event old.rows ≡ Some true))
IsDesk event old (Err (Step steps.Failed)) new = (new ≡ old) × ((is_for_desk event ≡ true) × IsNone old.rows)
IsDesk event old (Err OutOfMemory) new = ⊥
IsDesk event old (Err Attached) new = ⊥

-- no message waits, or the connection isn't attached, and nothing changed
pub record SendsNothing (dest : Dest) (old new : BoardState) : Type 0 where
  pub same : new ≡ old
  pub stands : is_attached dest old.attachments ≡ true → IsSome old.rows
  pub idle : is_attached dest old.attachments ≡ true → option_map (λ w. queued w dest) old.rows ≡ Some 0

-- a look into the ring out found no place, and nothing else changed
pub record FindsNoPlace (dest : Dest) (old new : BoardState) : Type 0 where
  pub stands : IsSome old.rows
  pub none_known : HasNoPlace dest old.attachments
  pub rows : new.rows ≡ old.rows
  pub attachments : new.attachments ≡ change_first (is_attachment_of dest) (with_free 0) old.attachments

-- some places of the ring out are free, but so much is on its way already that nothing is sent: nothing changed but for
-- what is known of the places
pub record HoldsBack (dest : Dest) (found : ℕ) (old new : BoardState) : Type 0 where
  pub stands : IsSome old.rows
  pub attached : is_attached dest old.attachments ≡ true
  pub some_free : 0 < found
  pub none_asked : share dest found old ≡ Some 0
  pub rows : new.rows ≡ old.rows
  pub attachments : new.attachments ≡ change_first (is_attachment_of dest) (with_free found) old.attachments

-- the connection's share was taken and pushed, and so many messages there were; or there was no message, or no
-- place, or no share; or the step was refused
abbrev pub IsSendOut : Dest → BoardState → Result ℕ BoardFault → BoardState → Type 0
IsSendOut dest old (Ok count) new =
    ((count ≡ 0) × SendsNothing dest old new)
    ⊎ (((count ≡ 0) × FindsNoPlace dest old new)
    ⊎ (((count ≡ 0) × ((found : ℕ) × HoldsBack dest found old new))
    ⊎ ((found : ℕ) × ((asked : ℕ) × ((outs : List Out) × ((count ≡ length outs) × ((share dest found old ≡ Some asked) × Sends dest found asked outs old new)))))))
IsSendOut dest old (Err (Step steps.OutOfMemory)) new = (found : ℕ) × SendFails dest found old new
IsSendOut dest old (Err (Step steps.NumbersUsedUp)) new =
    (found : ℕ) × ((asked : ℕ) × (SendFails dest found old new × ((share dest found old ≡ Some asked) × (uses_up (Drain dest asked) old.rows ≡ Some true))))
IsSendOut dest old (Err (Step steps.Failed)) new = (new ≡ old) × ((is_attached dest old.attachments ≡ true) × IsNone old.rows)
IsSendOut dest old (Err OutOfMemory) new = ⊥
IsSendOut dest old (Err Attached) new = ⊥
IsSendOut dest old (Err NotHere) new = ⊥

-- what waits in the outbox and what is on its way, with so many places of the ring free, as far as a number of 64 bits
-- tells it; nothing changed but for what is known of the places
abbrev pub IsWaiting : Dest → BoardState → Result ℕ Failed → BoardState → Type 0
IsWaiting dest old (Ok bytes) new =
    (places : ℕ) × ((Some bytes ≡ option_map (λ w. min (queued_bytes w dest + bytes_to dest places old.attachments) (2 ^ 64 - 1)) old.rows)
    × ((new.rows ≡ old.rows) × (new.attachments ≡ change_first (is_attachment_of dest) (with_free places) old.attachments)))
IsWaiting dest old (Err failed) new = IsNone old.rows × (new ≡ old)

-- a gateway to which nothing happened yet
abbrev pub IsNew : Option Gateway → Type 0
IsNew rows = (config : Config) × ((policy : Policy) × (rows ≡ Some (initial config policy)))

abbrev pub ends_of : AttachmentState → EndsState
ends_of attachment = attachment.ends

-- every connection's rings are as before
abbrev pub KeepsRings : List AttachmentState → List AttachmentState → Type 0
KeepsRings old new = (dest : Dest) → rings_of dest new ≡ rings_of dest old
