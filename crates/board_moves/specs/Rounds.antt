-- A round of calls, and who is told of each.
use Rattle.std.specs.Prelude.{◌≡◌, ℕ, zero, suc, ◌+◌, ◌-◌, ◌^◌, List, [], ◌∷◌, ◌++◌, map, min, true, false, Bool, Option, Some, None, Result, Ok, Err}
use Rattle.rows.specs.Rows.{change_first}
use Rattle.gateway_calls.specs.declared.fault.StepFault.TheVariants as steps
use Rattle.gateway_state.specs.Gateway.{Gateway}
use Rattle.gateway_state.specs.declared.event.Dest.{Dest}
use Rattle.board_rings.specs.Attachments.{is_attachment_of, with_full}
use Rattle.board_rings.specs.Rings.{AttachmentState}
use Rattle.board_rings.specs.Board.{BoardState}
use Rattle.board_moves.specs.Answers.{IsPump, IsSendOut}
use Rattle.board_moves.specs.Held.{has_too_much, is_held, is_weighed, weighs_clients}
use Rattle.board_moves.specs.Noted.{bare, begun, NotedBoard, PumpTells, SendTells, StayNoted}
use Rattle.board_moves.specs.declared.rounds.RoundCall.{RoundCall}
use Rattle.board_moves.specs.declared.rounds.RoundCall.TheVariants.{Pump, PumpFree, SendOut, Weigh}
use Rattle.board_moves.specs.declared.fault.BoardFault.{BoardFault}
use Rattle.board_moves.specs.declared.fault.BoardFault.TheVariants.{Step}

-- how many items a pump moved
abbrev pub pumped_count : Result Bool BoardFault → Result ℕ BoardFault
pumped_count (Ok true) = Ok 1
pumped_count (Ok false) = Ok 0
pumped_count (Err fault) = Err fault

-- whether too much waits for a connection that is weighed was noted with it, and nothing else changed
abbrev pub Weighs : Bool → Dest → BoardState → BoardState → Type 0
Weighs false dest old new = new ≡ old
Weighs true dest old new =
    (new.rows ≡ old.rows) × (new.attachments ≡ change_first (is_attachment_of dest) (with_full (has_too_much dest old.rows)) old.attachments)

-- a pump, and who is told of it. Whoever was to be told before still is
abbrev pub IsNotedPump : Dest → NotedBoard → Result Bool BoardFault → NotedBoard → Type 0
IsNotedPump dest old answer new =
    IsPump dest (bare old) answer (bare new) × (PumpTells dest answer old.attachments new.attachments new.rows old.news new.news × StayNoted old.news new.news)

-- a send-out, and who is told of it
abbrev pub IsNotedSendOut : Dest → NotedBoard → Result ℕ BoardFault → NotedBoard → Type 0
IsNotedSendOut dest old answer new =
    IsSendOut dest (bare old) answer (bare new) × (SendTells dest answer old.rows (bare new) old.news new.news × StayNoted old.news new.news)

-- a pump, by how many items it moved
abbrev pub PumpsOne : Dest → NotedBoard → Result ℕ BoardFault → NotedBoard → Type 0
PumpsOne dest old answer new = (pumped : Result Bool BoardFault) × (IsNotedPump dest old pumped new × (answer ≡ pumped_count pumped))

-- a connection that is held isn't pumped, and each other is
abbrev pub PumpsFree : Bool → Dest → NotedBoard → Result ℕ BoardFault → NotedBoard → Type 0
PumpsFree true dest old answer new = (answer ≡ Ok 0) × (new ≡ old)
PumpsFree false dest old answer new = PumpsOne dest old answer new

-- what the call does, and how many items it moves
abbrev pub Performs : RoundCall → NotedBoard → Result ℕ BoardFault → NotedBoard → Type 0
Performs (Pump dest) old answer new = PumpsOne dest old answer new
Performs (PumpFree dest) old answer new = PumpsFree (is_held dest (bare old)) dest old answer new
Performs (SendOut dest) old answer new = IsNotedSendOut dest old answer new
Performs (Weigh clients dest) old answer new = (answer ≡ Ok 0) × (Weighs (is_weighed clients dest) dest (bare old) (bare new) × (new.news ≡ old.news))

abbrev pub with_more : {F : Type 0} → ℕ → Result ℕ F → Result ℕ F
with_more count (Ok more) = Ok (count + more)
with_more count (Err fault) = Err fault

-- what follows a call: the others, where it was Ok, and nothing at a fault
abbrev pub Then : {F : Type 0} → (Result ℕ F → Type 0) → Type 0 → Result ℕ F → Result ℕ F → Type 0
Then {F} others stays (Ok count) answer = (more : Result ℕ F) × (others more × (answer ≡ with_more count more))
Then others stays (Err fault) answer = (answer ≡ Err fault) × stays

-- calls in order, up to the first fault, and how many items they move together
abbrev pub InOrder : {C B F : Type 0} → (C → B → Result ℕ F → B → Type 0) → List C → B → Result ℕ F → B → Type 0
InOrder does [] old answer new = (answer ≡ Ok 0) × (new ≡ old)
InOrder {B = B} {F = F} does (call ∷ calls) old answer new =
    (one : Result ℕ F) × ((between : B) × (does call old one between × Then (λ more. InOrder does calls between more new) (new ≡ between) one answer))

abbrev pub PerformsAll : List RoundCall → NotedBoard → Result ℕ BoardFault → NotedBoard → Type 0
PerformsAll calls old answer new = InOrder Performs calls old answer new

-- a pump for each attached connection, and then a send-out for each, clients first, by rising number
abbrev pub dests_of : List AttachmentState → List Dest
dests_of attachments = map (λ (attachment : AttachmentState). attachment.dest) attachments

abbrev pub round_calls : List AttachmentState → List RoundCall
round_calls attachments = map Pump (dests_of attachments) ++ map SendOut (dests_of attachments)

-- how many items were moved, up to the largest number that can be told
abbrev pub told_count : Result ℕ BoardFault → Result ℕ BoardFault
told_count (Ok count) = Ok (min count (2 ^ 64 - 1))
told_count (Err fault) = Err fault

-- the same, where the count is told
abbrev pub PerformsUpTo : List RoundCall → NotedBoard → Result ℕ BoardFault → NotedBoard → Type 0
PerformsUpTo calls old answer new = (exact : Result ℕ BoardFault) × (PerformsAll calls old exact new × (answer ≡ told_count exact))

abbrev pub IsRoundOn : Option Gateway → NotedBoard → Result ℕ BoardFault → NotedBoard → Type 0
IsRoundOn None old answer new = (answer ≡ Err (Step steps.Failed)) × (new ≡ old)
IsRoundOn (Some w) old answer new = PerformsUpTo (round_calls old.attachments) (begun old) answer new

-- a round of all calls; on a board that has failed there is none
abbrev pub IsRound : NotedBoard → Result ℕ BoardFault → NotedBoard → Type 0
IsRound old answer new = IsRoundOn old.rows old answer new

-- rounds one after another: so many that were Ok, and then a last one. How many items were moved together is told up to
-- the largest number that can be told
abbrev pub told_together : ℕ → Result ℕ BoardFault → Result ℕ BoardFault
told_together count (Ok more) = Ok (min (count + more) (2 ^ 64 - 1))
told_together count (Err fault) = Err fault

-- a round in which those that are held aren't pumped
abbrev pub free_calls : List AttachmentState → List RoundCall
free_calls attachments = map PumpFree (dests_of attachments) ++ map SendOut (dests_of attachments)

abbrev pub IsFreeRoundOn : Option Gateway → NotedBoard → Result ℕ BoardFault → NotedBoard → Type 0
IsFreeRoundOn None old answer new = (answer ≡ Err (Step steps.Failed)) × (new ≡ old)
IsFreeRoundOn (Some w) old answer new = PerformsUpTo (free_calls old.attachments) (begun old) answer new

abbrev pub IsFreeRound : NotedBoard → Result ℕ BoardFault → NotedBoard → Type 0
IsFreeRound old answer new = IsFreeRoundOn old.rows old answer new

-- no further round follows one by which too much came to wait for a client
abbrev pub AreRounds : ℕ → NotedBoard → Result ℕ BoardFault → NotedBoard → Type 0
AreRounds zero old answer new = IsFreeRound old answer new
AreRounds (suc earlier) old answer new =
    (count : ℕ)
    × ((last : Result ℕ BoardFault)
    × ((between : NotedBoard) × (AreRounds earlier old (Ok count) between × ((between.news.grown ≡ false) × (IsFreeRound between last new × (answer ≡ told_together count last))))))

-- servers are weighed, and clients where that is due; then there is one round or more, up to the first fault
abbrev pub IsBatch : NotedBoard → Result ℕ BoardFault → NotedBoard → Type 0
IsBatch old answer new =
    (between : NotedBoard)
    × (PerformsUpTo (map (Weigh (weighs_clients old.news old.attachments)) (dests_of old.attachments)) old (Ok 0) between × ((earlier : ℕ) × AreRounds earlier between answer new))
