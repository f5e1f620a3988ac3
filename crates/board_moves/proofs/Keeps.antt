-- Each call of a board leaves it with a history.
use Rattle.std.proofs.Common.{◌≡◌, ℕ, zero, suc, List, [], ◌∷◌, Bool, true, false, Option, Some, None, Result, Ok, Err, inl, inr, filter, map, not, ◌||◌, if◌then◌else◌, refl, subst, sym, ap, ◌∙◌}
use Rattle.std.specs.Prelude.{⊤, IfOk, OnErr}
use Rattle.std.specs.List.{list_any}
use Rattle.rows.specs.Rows.{change_first}
use Rattle.gateway_calls.specs.declared.fault.Failed.{Failed}
use Rattle.gateway_calls.specs.declared.fault.StepFault.TheVariants as steps
use Rattle.gateway_state.specs.Gateway.{Gateway}
use Rattle.gateway_state.specs.declared.event.Dest.{Dest}
use Rattle.gateway_state.specs.declared.event.Event.{Event}
use Rattle.board_rings.specs.Attachments.{is_attached, is_attachment_of, is_not_attachment_of, new_attachment, with_full, with_leaving, with_look_in, IsWith}
use Rattle.board_rings.specs.Rings.{InletState, AttachmentState, OutletState}
use Rattle.board_rings.specs.declared.attachment.TheConstants.{RING_SIZE}
use Rattle.board_rings.specs.Board.{BoardState}
use Rattle.board_rings.specs.History.{HasHistory}
use Rattle.board_rings.proofs.Goes.{attached_has_history, beside_has_history, desk_failed_has_history, desked_has_history, looked_has_history, pump_failed_has_history, pumped_has_history, send_failed_has_history, retired_has_history, sent_has_history}
use Rattle.board_moves.specs.Answers.{IsDesk, IsPump, IsSendOut, IsWaiting}
use Rattle.board_moves.specs.Held.{has_too_much, is_held, is_weighed, weighs_clients}
use Rattle.board_moves.specs.declared.rounds.RoundCall.{RoundCall}
use Rattle.board_moves.specs.declared.rounds.RoundCall.TheVariants.{Pump, PumpFree, SendOut, Weigh}
use Rattle.board_moves.specs.Noted.{bare, begun, NotedBoard}
use Rattle.board_moves.specs.Rounds.{dests_of, free_calls, round_calls, AreRounds, IsBatch, IsFreeRound, IsFreeRoundOn, IsRound, IsRoundOn, Performs, PerformsAll, PerformsUpTo, PumpsFree, Weighs}
use Rattle.board_moves.specs.declared.fault.BoardFault.{BoardFault}
use Rattle.board_moves.specs.declared.fault.BoardFault.TheVariants.{OutOfMemory, Attached, NotHere, Step}

pub pump_keeps : (dest : Dest) (old : BoardState) (result : Result Bool BoardFault) (new : BoardState) → IsPump dest old result new → HasHistory old → HasHistory new
pump_keeps dest old (Ok true) new p h = pumped_has_history dest p.0 old new h p.1
pump_keeps dest old (Ok false) new p h = beside_has_history with_look_in (λ _. refl) (λ _. refl) dest old new h p.0 p.1.0
pump_keeps dest old (Err (Step steps.OutOfMemory)) new p h = pump_failed_has_history dest p.0 old new h p.1
pump_keeps dest old (Err (Step steps.NumbersUsedUp)) new p h = pump_failed_has_history dest p.0 old new h p.1.0
pump_keeps dest old (Err (Step steps.Failed)) new p h = subst HasHistory (sym p.0) h
pump_keeps dest old (Err OutOfMemory) new p h = absurd p
pump_keeps dest old (Err Attached) new p h = absurd p
pump_keeps dest old (Err NotHere) new p h = absurd p

pub desk_keeps : (event : Event) (old : BoardState) (result : Result ⊤ BoardFault) (new : BoardState) → IsDesk event old result new → HasHistory old → HasHistory new
desk_keeps event old (Ok done) new p h = desked_has_history event old new h p
desk_keeps event old (Err NotHere) new p h = subst HasHistory (sym p.0) h
desk_keeps event old (Err (Step steps.OutOfMemory)) new p h = desk_failed_has_history old new h p.0
desk_keeps event old (Err (Step steps.NumbersUsedUp)) new p h = desk_failed_has_history old new h p.0
desk_keeps event old (Err (Step steps.Failed)) new p h = subst HasHistory (sym p.0) h
desk_keeps event old (Err OutOfMemory) new p h = absurd p
desk_keeps event old (Err Attached) new p h = absurd p

pub send_out_keeps : (dest : Dest) (old : BoardState) (result : Result ℕ BoardFault) (new : BoardState) → IsSendOut dest old result new → HasHistory old → HasHistory new
send_out_keeps dest old (Ok count) new (inl p) h = subst HasHistory (sym p.1.same) h
send_out_keeps dest old (Ok count) new (inr (inl p)) h = looked_has_history dest 0 old new h p.1.rows p.1.attachments
send_out_keeps dest old (Ok count) new (inr (inr (inl p))) h = looked_has_history dest p.1.0 old new h p.1.1.rows p.1.1.attachments
send_out_keeps dest old (Ok count) new (inr (inr (inr p))) h = sent_has_history dest p.0 p.1.0 p.1.1.0 old new h p.1.1.1.1.1
send_out_keeps dest old (Err (Step steps.OutOfMemory)) new p h = send_failed_has_history dest p.0 old new h p.1
send_out_keeps dest old (Err (Step steps.NumbersUsedUp)) new p h = send_failed_has_history dest p.0 old new h p.1.1.0
send_out_keeps dest old (Err (Step steps.Failed)) new p h = subst HasHistory (sym p.0) h
send_out_keeps dest old (Err OutOfMemory) new p h = absurd p
send_out_keeps dest old (Err Attached) new p h = absurd p
send_out_keeps dest old (Err NotHere) new p h = absurd p

-- the end of a connection is noted
pub ended_keeps : (dest : Dest) (old new : BoardState) → new.rows ≡ old.rows → new.attachments ≡ change_first (is_attachment_of dest) with_leaving old.attachments → HasHistory old → HasHistory new
ended_keeps dest old new rows attachments h = beside_has_history with_leaving (λ _. refl) (λ _. refl) dest old new h rows attachments

pub waiting_keeps : (dest : Dest) (old : BoardState) (result : Result ℕ Failed) (new : BoardState) → IsWaiting dest old result new → HasHistory old → HasHistory new
waiting_keeps dest old (Ok bytes) new p h = looked_has_history dest p.0 old new h p.1.1.0 p.1.1.1
waiting_keeps dest old (Err failed) new p h = subst HasHistory (sym p.1) h

-- a board that is as before
history_stays : (old new : NotedBoard) → new ≡ old → HasHistory (bare old) → HasHistory (bare new)
history_stays old new same h = subst (λ (board : NotedBoard). HasHistory (bare board)) (sym same) h

free_keeps : (dest : Dest) (held : Bool) (old : NotedBoard) (answer : Result ℕ BoardFault) (new : NotedBoard) → PumpsFree held dest old answer new → HasHistory (bare old) → HasHistory (bare new)
free_keeps dest true old answer new p h = history_stays old new p.1 h
free_keeps dest false old answer new p h = pump_keeps dest (bare old) p.0 (bare new) p.1.0.0 h

weigh_keeps : (is : Bool) (dest : Dest) (old new : NotedBoard) → Weighs is dest (bare old) (bare new) → HasHistory (bare old) → HasHistory (bare new)
weigh_keeps false dest old new p h = subst HasHistory (sym p) h
weigh_keeps true dest old new p h = beside_has_history (with_full (has_too_much dest old.rows)) (λ _. refl) (λ _. refl) dest (bare old) (bare new) h p.0 p.1

performs_keeps : (call : RoundCall) (old : NotedBoard) (answer : Result ℕ BoardFault) (new : NotedBoard) → Performs call old answer new → HasHistory (bare old) → HasHistory (bare new)
performs_keeps (Pump dest) old answer new p h = pump_keeps dest (bare old) p.0 (bare new) p.1.0.0 h
performs_keeps (PumpFree dest) old answer new p h = free_keeps dest (is_held dest (bare old)) old answer new p h
performs_keeps (SendOut dest) old answer new p h = send_out_keeps dest (bare old) answer (bare new) p.0 h
performs_keeps (Weigh clients dest) old answer new p h = weigh_keeps (is_weighed clients dest) dest old new p.1.0 h

all_keep : (calls : List RoundCall) (old : NotedBoard) (answer : Result ℕ BoardFault) (new : NotedBoard) → PerformsAll calls old answer new → HasHistory (bare old) → HasHistory (bare new)
all_keep [] old answer new p h = history_stays old new p.1 h
all_keep (call ∷ calls) old answer new (Ok count, (between, (one, rest))) h =
    all_keep calls between rest.0 new rest.1.0 (performs_keeps call old (Ok count) between one h)
all_keep (call ∷ calls) old answer new (Err fault, (between, (one, rest))) h =
    history_stays between new rest.1 (performs_keeps call old (Err fault) between one h)

up_to_keeps : (calls : List RoundCall) (old : NotedBoard) (answer : Result ℕ BoardFault) (new : NotedBoard) → PerformsUpTo calls old answer new → HasHistory (bare old) → HasHistory (bare new)
up_to_keeps calls old answer new p h = all_keep calls old p.0 new p.1.0 h

round_on_keeps : (rows : Option Gateway) (old : NotedBoard) (answer : Result ℕ BoardFault) (new : NotedBoard) → IsRoundOn rows old answer new → HasHistory (bare old) → HasHistory (bare new)
round_on_keeps None old answer new p h = history_stays old new p.1 h
round_on_keeps (Some w) old answer new p h = up_to_keeps (round_calls old.attachments) (begun old) answer new p h

pub round_keeps : (old : NotedBoard) (answer : Result ℕ BoardFault) (new : NotedBoard) → IsRound old answer new → HasHistory (bare old) → HasHistory (bare new)
round_keeps old answer new p h = round_on_keeps old.rows old answer new p h

free_on_keeps : (rows : Option Gateway) (old : NotedBoard) (answer : Result ℕ BoardFault) (new : NotedBoard) → IsFreeRoundOn rows old answer new → HasHistory (bare old) → HasHistory (bare new)
free_on_keeps None old answer new p h = history_stays old new p.1 h
free_on_keeps (Some w) old answer new p h = up_to_keeps (free_calls old.attachments) (begun old) answer new p h

free_round_keeps : (old : NotedBoard) (answer : Result ℕ BoardFault) (new : NotedBoard) → IsFreeRound old answer new → HasHistory (bare old) → HasHistory (bare new)
free_round_keeps old answer new p h = free_on_keeps old.rows old answer new p h

rounds_keep : (earlier : ℕ) (old : NotedBoard) (answer : Result ℕ BoardFault) (new : NotedBoard) → AreRounds earlier old answer new → HasHistory (bare old) → HasHistory (bare new)
rounds_keep zero old answer new p h = free_round_keeps old answer new p h
rounds_keep (suc earlier) old answer new (count, (last, (between, (before, (still, (one, told)))))) h =
    free_round_keeps between last new one (rounds_keep earlier old (Ok count) between before h)

pub batch_keeps : (old : NotedBoard) (answer : Result ℕ BoardFault) (new : NotedBoard) → IsBatch old answer new → HasHistory (bare old) → HasHistory (bare new)
batch_keeps old answer new (between, (weighed, (earlier, all))) h =
    rounds_keep earlier between answer new all (up_to_keeps (map (Weigh (weighs_clients old.news old.attachments)) (dests_of old.attachments)) old (Ok 0) between weighed h)

-- a connection that wasn't attached leaves all attachments
none_left_out : (dest : Dest) (attachments : List AttachmentState) → is_attached dest attachments ≡ false → filter (is_not_attachment_of dest) attachments ≡ attachments
none_left_out dest [] none = refl
none_left_out dest (attachment ∷ attachments) none =
    elim (is_attachment_of dest attachment) as (λ b. (b || list_any (is_attachment_of dest) attachments) ≡ false → (if not b then attachment ∷ filter (is_not_attachment_of dest) attachments else filter (is_not_attachment_of dest) attachments) ≡ attachment ∷ attachments)
    [ true ↦ λ h. absurd cc | false ↦ λ h. ap (λ (ls : List AttachmentState). attachment ∷ ls) (none_left_out dest attachments h) ] none

same_board : (old new : BoardState) → new.rows ≡ old.rows → new.attachments ≡ old.attachments → new ≡ old
same_board old new rows attachments = ap (λ (r : Option Gateway). record { rows = r; attachments = new.attachments }) rows ∙ ap (λ (ls : List AttachmentState). record { rows = old.rows; attachments = ls }) attachments

retire_by : (dest : Dest) (old new : BoardState) (there : Bool) → is_attached dest old.attachments ≡ there → new.rows ≡ old.rows → new.attachments ≡ filter (is_not_attachment_of dest) old.attachments → HasHistory old → HasHistory new
retire_by dest old new true there rows attachments h = retired_has_history dest old new h (record { attached = there; rows = rows; attachments = attachments })
retire_by dest old new false there rows attachments h = subst HasHistory (sym (same_board old new rows (attachments ∙ none_left_out dest old.attachments there))) h

pub retire_keeps : (dest : Dest) (old new : BoardState) → new.rows ≡ old.rows → new.attachments ≡ filter (is_not_attachment_of dest) old.attachments → HasHistory old → HasHistory new
retire_keeps dest old new rows attachments h = retire_by dest old new (is_attached dest old.attachments) refl rows attachments h

pub attach_keeps : {E : Type 0} (dest : Dest) (rows : Option Gateway) (attachments left : List AttachmentState) (result : Result (InletState × OutletState) E)
    → IfOk result (λ ends. IsWith (new_attachment dest ends.0.ring ends.1.ring RING_SIZE) attachments left) → OnErr result (left ≡ attachments) → is_attached dest attachments ≡ false
    → HasHistory (record { rows = rows; attachments = attachments }) → HasHistory (record { rows = rows; attachments = left })
attach_keeps dest rows attachments left (Ok ends) fine kept apart h =
    attached_has_history dest ends.0.ring ends.1.ring RING_SIZE (record { rows = rows; attachments = attachments }) (record { rows = rows; attachments = left }) h (record { apart = apart; rows = refl; attachments = fine })
attach_keeps dest rows attachments left (Err refused) fine kept apart h = subst (λ (ls : List AttachmentState). HasHistory (record { rows = rows; attachments = ls })) (sym kept) h
