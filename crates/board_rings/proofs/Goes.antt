-- A board that has a history has one after each call.
use Rattle.std.proofs.Common.{◌≡◌, ℕ, List, [], ◌∷◌, ◌++◌, Some}
use Rattle.rows.specs.Rows.{change_first}
use Rattle.fanout.specs.declared.outbox.Out.{Out}
use Rattle.gateway_state.specs.Gateway.{initial}
use Rattle.gateway_state.specs.declared.config.Config.{Config}
use Rattle.gateway_state.specs.declared.event.Dest.{Dest}
use Rattle.gateway_state.specs.declared.event.Event.{Event}
use Rattle.rule_desk.specs.declared.policy.Policy.{Policy}
use Rattle.board_rings.specs.Attachments.{is_attachment_of, with_free}
use Rattle.board_rings.specs.Rings.{AttachmentState, Ring}
use Rattle.board_rings.specs.declared.inbound.Inbound.{Inbound}
use Rattle.board_rings.specs.Board.{BoardState}
use Rattle.board_rings.specs.Calls.{Attaches, DeskFails, Desks, PumpFails, Pumps, Retires, SendFails, Sends}
use Rattle.board_rings.specs.History.{HasHistory, IsOnRun}
use Rattle.board_rings.specs.declared.entry.Entry.{Entry}
use Rattle.board_rings.specs.declared.entry.Entry.TheVariants.{Pumped, Desked, Sent, Attached, Retired}
use Rattle.board_rings.proofs.OnRun.{attached, beside, desk_failed, desked, looked, new_board, pump_failed, pumped, retired, send_failed, sent}

pub new_has_history : (config : Config) (policy : Policy) → HasHistory (record { rows = Some (initial config policy); attachments = [] })
new_has_history config policy = record { config = config; policy = policy; history = []; on_run = new_board config policy }

-- the history with an entry more
goes_on_by : (entry : Entry) (old new : BoardState) (had : HasHistory old) → IsOnRun new had.config had.policy (had.history ++ entry ∷ []) → HasHistory new
goes_on_by entry old new had on_run = record { config = had.config; policy = had.policy; history = had.history ++ entry ∷ []; on_run = on_run }

-- the same history
stays : (old new : BoardState) (had : HasHistory old) → IsOnRun new had.config had.policy had.history → HasHistory new
stays old new had on_run = record { config = had.config; policy = had.policy; history = had.history; on_run = on_run }

pub pumped_has_history : (dest : Dest) (item : Inbound) (old new : BoardState) → HasHistory old → Pumps dest item old new → HasHistory new
pumped_has_history dest item old new had pumps =
    goes_on_by (Pumped dest item) old new had (pumped had.config had.policy had.history old new had.on_run dest item pumps)

pub pump_failed_has_history : (dest : Dest) (item : Inbound) (old new : BoardState) → HasHistory old → PumpFails dest item old new → HasHistory new
pump_failed_has_history dest item old new had pumps =
    stays old new had (pump_failed had.config had.policy had.history old new had.on_run dest item pumps)

pub desked_has_history : (event : Event) (old new : BoardState) → HasHistory old → Desks event old new → HasHistory new
desked_has_history event old new had desks =
    goes_on_by (Desked event) old new had (desked had.config had.policy had.history old new had.on_run event desks)

pub desk_failed_has_history : (old new : BoardState) → HasHistory old → DeskFails old new → HasHistory new
desk_failed_has_history old new had desks =
    stays old new had (desk_failed had.config had.policy had.history old new had.on_run desks)

pub sent_has_history : (dest : Dest) (found count : ℕ) (outs : List Out) (old new : BoardState) → HasHistory old → Sends dest found count outs old new → HasHistory new
sent_has_history dest found count outs old new had sends =
    goes_on_by (Sent dest count) old new had (sent had.config had.policy had.history old new had.on_run dest found count outs sends)

pub send_failed_has_history : (dest : Dest) (found : ℕ) (old new : BoardState) → HasHistory old → SendFails dest found old new → HasHistory new
send_failed_has_history dest found old new had sends =
    stays old new had (send_failed had.config had.policy had.history old new had.on_run dest found sends)

pub attached_has_history : (dest : Dest) (in_ring out_ring : Ring) (free : ℕ) (old new : BoardState) → HasHistory old → Attaches dest in_ring out_ring free old new → HasHistory new
attached_has_history dest in_ring out_ring free old new had attaches =
    goes_on_by (Attached dest) old new had (attached had.config had.policy had.history old new had.on_run dest in_ring out_ring free attaches)

pub retired_has_history : (dest : Dest) (old new : BoardState) → HasHistory old → Retires dest old new → HasHistory new
retired_has_history dest old new had retires =
    goes_on_by (Retired dest) old new had (retired had.config had.policy had.history old new had.on_run dest retires)

pub looked_has_history : (dest : Dest) (found : ℕ) (old new : BoardState) → HasHistory old
    → new.rows ≡ old.rows → new.attachments ≡ change_first (is_attachment_of dest) (with_free found) old.attachments → HasHistory new
looked_has_history dest found old new had rows attachments =
    stays old new had (looked had.config had.policy had.history old new had.on_run dest found rows attachments)

pub beside_has_history : (f : AttachmentState → AttachmentState) → ((attachment : AttachmentState) → (f attachment).dest ≡ attachment.dest) → ((attachment : AttachmentState) → (f attachment).ends ≡ attachment.ends)
    → (dest : Dest) (old new : BoardState) → HasHistory old → new.rows ≡ old.rows → new.attachments ≡ change_first (is_attachment_of dest) f old.attachments → HasHistory new
beside_has_history f keeps ends dest old new had rows attachments =
    stays old new had (beside had.config had.policy had.history old new had.on_run f keeps ends dest rows attachments)
