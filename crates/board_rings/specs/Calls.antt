-- What each call of a board does to it.
use Rattle.std.specs.Prelude.{◌≡◌, ℕ, ◌<◌, ◌≤◌, List, Bool, filter, min, true, false, Option, Some, None, IsSome}
use Rattle.std.specs.Option.{option_map}
use Rattle.rows.specs.Rows.{change_first}
use Rattle.fanout.specs.declared.outbox.Out.{Out}
use Rattle.gateway_state.specs.Gateway.{Gateway}
use Rattle.gateway_state.specs.Numbers.{is_past_numbers}
use Rattle.gateway_state.specs.Step.{step, taken}
use Rattle.gateway_state.specs.declared.event.Dest.{Dest}
use Rattle.gateway_state.specs.declared.event.Event.{Event}
use Rattle.gateway_state.specs.declared.event.Event.TheVariants.{Drain}
use Rattle.board_rings.specs.Attachments.{is_attached, is_attachment_of, is_not_attachment_of, new_attachment, with_free, with_pushed, with_received, IsWith}
use Rattle.board_rings.specs.Rings.{AttachmentState, Ring}
use Rattle.board_rings.specs.declared.inbound.Inbound.{Inbound}
use Rattle.board_rings.specs.Board.{BoardState}
use Rattle.board_rings.specs.History.{is_for_desk, item_event}
use Rattle.board_rings.specs.declared.entry.TheConstants.{MOST_SENT}

-- whether the event would give out a number past the last one; nothing on a board that has failed
abbrev pub uses_up : Event → Option Gateway → Option Bool
uses_up event rows = option_map (λ w. is_past_numbers (step w event)) rows

-- an item of a connection was received, so many were seen to follow, and its event was performed
pub record Pumps (dest : Dest) (item : Inbound) (old new : BoardState) : Type 0 where
  pub stands : IsSome old.rows
  pub attached : is_attached dest old.attachments ≡ true
  pub in_range : uses_up (item_event dest item) old.rows ≡ Some false
  pub rows : new.rows ≡ option_map (λ w. step w (item_event dest item)) old.rows
  pub seen : ℕ
  pub attachments : new.attachments ≡ change_first (is_attachment_of dest) (with_received item seen) old.attachments

-- an item of a connection was received, and its event refused: the board has failed
pub record PumpFails (dest : Dest) (item : Inbound) (old new : BoardState) : Type 0 where
  pub stands : IsSome old.rows
  pub attached : is_attached dest old.attachments ≡ true
  pub rows : new.rows ≡ None
  pub seen : ℕ
  pub attachments : new.attachments ≡ change_first (is_attachment_of dest) (with_received item seen) old.attachments

-- an event was handed in and performed
pub record Desks (event : Event) (old new : BoardState) : Type 0 where
  pub stands : IsSome old.rows
  pub here : is_for_desk event ≡ true
  pub in_range : uses_up event old.rows ≡ Some false
  pub rows : new.rows ≡ option_map (λ w. step w event) old.rows
  pub attachments : new.attachments ≡ old.attachments

-- an event was handed in and refused
pub record DeskFails (old new : BoardState) : Type 0 where
  pub stands : IsSome old.rows
  pub rows : new.rows ≡ None
  pub attachments : new.attachments ≡ old.attachments

-- so many places of the ring out were found free, and these messages pushed
abbrev pub with_sent : ℕ → List Out → AttachmentState → AttachmentState
with_sent found outs attachment = with_pushed outs (with_free found attachment)

-- some places of the ring out were found free, and so many messages, up to 64, were taken for them and
-- pushed, or all
pub record Sends (dest : Dest) (found count : ℕ) (outs : List Out) (old new : BoardState) : Type 0 where
  pub stands : IsSome old.rows
  pub attached : is_attached dest old.attachments ≡ true
  pub some_free : 0 < found
  pub some_asked : 0 < count
  pub no_more : count ≤ min MOST_SENT found
  pub in_range : uses_up (Drain dest count) old.rows ≡ Some false
  pub taken : Some outs ≡ option_map (λ w. taken w (Drain dest count) dest) old.rows
  pub rows : new.rows ≡ option_map (λ w. step w (Drain dest count)) old.rows
  pub attachments : new.attachments ≡ change_first (is_attachment_of dest) (with_sent found outs) old.attachments

-- some places were found free, and the messages refused
pub record SendFails (dest : Dest) (found : ℕ) (old new : BoardState) : Type 0 where
  pub stands : IsSome old.rows
  pub attached : is_attached dest old.attachments ≡ true
  pub rows : new.rows ≡ None
  pub attachments : new.attachments ≡ change_first (is_attachment_of dest) (with_free found) old.attachments

-- a connection got two rings through which nothing went yet
pub record Attaches (dest : Dest) (in_ring out_ring : Ring) (free : ℕ) (old new : BoardState) : Type 0 where
  pub apart : is_attached dest old.attachments ≡ false
  pub rows : new.rows ≡ old.rows
  pub attachments : IsWith (new_attachment dest in_ring out_ring free) old.attachments new.attachments

-- the board's ends of a connection's rings were taken off
pub record Retires (dest : Dest) (old new : BoardState) : Type 0 where
  pub attached : is_attached dest old.attachments ≡ true
  pub rows : new.rows ≡ old.rows
  pub attachments : new.attachments ≡ filter (is_not_attachment_of dest) old.attachments
