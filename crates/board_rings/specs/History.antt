-- Histories of boards.
use Rattle.std.specs.Prelude.{◌≡◌, List, [], ◌∷◌, ◌++◌, Bool, true, false, not, nat_le, nat_lt, ◌&&◌, if◌then◌else◌, Option, Some, None, IsSome, is_some}
use Rattle.std.specs.Option.{ForSome}
use Rattle.fanout.specs.declared.outbox.Out.{Out}
use Rattle.gateway_state.specs.Connections.{same_dest}
use Rattle.gateway_state.specs.Gateway.{Gateway, initial}
use Rattle.gateway_state.specs.Numbers.{runs_out}
use Rattle.gateway_state.specs.Step.{run, step, taken}
use Rattle.gateway_state.specs.declared.config.Config.{Config}
use Rattle.gateway_state.specs.declared.event.Dest.{Dest}
use Rattle.gateway_state.specs.declared.event.Dest.TheVariants.{Session, Upstream}
use Rattle.gateway_state.specs.declared.event.Event.{Event}
use Rattle.gateway_state.specs.declared.event.Event.TheVariants as events
use Rattle.rule_desk.specs.declared.policy.Policy.{Policy}
use Rattle.board_rings.specs.Attachments.{are_in_order, attachment_of}
use Rattle.board_rings.specs.Rings.{AttachmentState}
use Rattle.board_rings.specs.declared.inbound.Inbound.{Inbound}
use Rattle.board_rings.specs.declared.inbound.Inbound.TheVariants.{Message, Gone}
use Rattle.board_rings.specs.Board.{BoardState}
use Rattle.board_rings.specs.declared.entry.Entry.{Entry}
use Rattle.board_rings.specs.declared.entry.Entry.TheVariants.{Pumped, Desked, Sent, Attached, Retired}
use Rattle.board_rings.specs.declared.entry.TheConstants.{MOST_SENT}

-- EVENTS

-- what a connection's item is as an event
abbrev pub item_event : Dest → Inbound → Event
item_event (Session number) (Message message) = events.Client number message
item_event (Session number) Gone = events.Lost number
item_event (Upstream number) (Message message) = events.Server number message
item_event (Upstream number) Gone = events.UpLost number

abbrev pub entry_event : Entry → Option Event
entry_event (Pumped dest item) = Some (item_event dest item)
entry_event (Desked event) = Some event
entry_event (Sent dest count) = Some (events.Drain dest count)
entry_event (Attached dest) = None
entry_event (Retired dest) = None

abbrev pub with_event : Option Event → List Event → List Event
with_event None events = events
with_event (Some event) events = event ∷ events

-- the events of a history, in order
abbrev pub events_of : List Entry → List Event
events_of [] = []
events_of (entry ∷ rest) = with_event (entry_event entry) (events_of rest)

-- WHAT WENT THROUGH RINGS

-- whether a connection is attached after these entries
abbrev pub attached_after : Bool → List Entry → Dest → Bool
attached_after before [] dest = before
attached_after before (Attached at ∷ rest) dest = attached_after (if same_dest at dest then true else before) rest dest
attached_after before (Retired at ∷ rest) dest = attached_after (if same_dest at dest then false else before) rest dest
attached_after before (entry ∷ rest) dest = attached_after before rest dest

abbrev pub is_attached_in : List Entry → Dest → Bool
is_attached_in history dest = attached_after false history dest

-- what an entry leaves of the items received of a connection
abbrev pub received_by : List Inbound → Entry → Dest → List Inbound
received_by before (Pumped from item) dest = if same_dest from dest then before ++ item ∷ [] else before
received_by before (Attached at) dest = if same_dest at dest then [] else before
received_by before entry dest = before

abbrev pub received_after : List Inbound → List Entry → Dest → List Inbound
received_after before [] dest = before
received_after before (entry ∷ rest) dest = received_after (received_by before entry dest) rest dest

-- the items received of a connection since it was last attached, in order
abbrev pub received_in : List Entry → Dest → List Inbound
received_in history dest = received_after [] history dest

-- the gateway after an entry
abbrev pub state_after : Gateway → Option Event → Gateway
state_after w None = w
state_after w (Some event) = step w event

-- what an entry leaves of the messages pushed to a connection
abbrev pub pushed_by : List Out → Gateway → Entry → Dest → List Out
pushed_by before w (Sent to count) dest = before ++ taken w (events.Drain to count) dest
pushed_by before w (Attached at) dest = if same_dest at dest then [] else before
pushed_by before w entry dest = before

abbrev pub pushed_after : List Out → Gateway → List Entry → Dest → List Out
pushed_after before w [] dest = before
pushed_after before w (entry ∷ rest) dest =
    pushed_after (pushed_by before w entry dest) (state_after w (entry_event entry)) rest dest

-- the messages taken for a connection since it was last attached, in order, where the history begins with
-- this gateway
abbrev pub pushed_in : Gateway → List Entry → Dest → List Out
pushed_in w history dest = pushed_after [] w history dest

-- WHICH ENTRIES MAY FOLLOW

-- what is handed in at the desk: no message of a connection, and nothing that takes messages
abbrev pub is_for_desk : Event → Bool
is_for_desk (events.Client number message) = false
is_for_desk (events.Server number message) = false
is_for_desk (events.Drain dest count) = false
is_for_desk event = true

-- an entry that may come after these: items are received of attached connections, and messages sent to
-- them alone, up to 64 at once
abbrev pub may_follow : List Entry → Entry → Bool
may_follow before (Pumped dest item) = is_attached_in before dest
may_follow before (Desked event) = is_for_desk event
may_follow before (Sent dest count) = is_attached_in before dest && (nat_lt 0 count && nat_le count MOST_SENT)
may_follow before (Attached dest) = not (is_attached_in before dest)
may_follow before (Retired dest) = is_attached_in before dest

abbrev pub may_follow_all : List Entry → List Entry → Bool
may_follow_all before [] = true
may_follow_all before (entry ∷ rest) = may_follow before entry && may_follow_all (before ++ entry ∷ []) rest

-- THE BOARD

-- the item of a connection that was received, and whose event was refused
pub record Refused : Type 0 where
  pub dest : Dest
  pub item : Inbound

abbrev pub refused_of : Option Refused → Dest → List Inbound
refused_of None dest = []
refused_of (Some refused) dest = if same_dest refused.dest dest then refused.item ∷ [] else []

-- what a connection's attachment says is what the history says of it. On a board that failed one connection's
-- attachment may have one item more
pub record IsAttachmentOf (config : Config) (policy : Policy) (history : List Entry) (refused : Option Refused) (dest : Dest) (attachment : AttachmentState) : Type 0 where
  pub received : attachment.ends.received ≡ received_in history dest ++ refused_of refused dest
  pub pushed : attachment.ends.pushed ≡ pushed_in (initial config policy) history dest

-- the board is where this history leads, from a gateway that began with this policy. Its attachments stand in
-- order: clients first, each by rising number
pub record IsOnRun (board : BoardState) (config : Config) (policy : Policy) (history : List Entry) : Type 0 where
  pub entries : may_follow_all [] history ≡ true
  -- no step gave out a number past the last one, so each is a defined one
  pub defined : runs_out (initial config policy) (events_of history) ≡ false
  pub ordered : are_in_order board.attachments ≡ true
  -- where no step was refused, the rows are those that the events run to
  pub rows : ForSome board.rows (λ w. w ≡ run (initial config policy) (events_of history))
  pub refused : Option Refused
  pub none_refused : IsSome board.rows → refused ≡ None
  pub attached : (dest : Dest) → is_some (attachment_of dest board.attachments) ≡ is_attached_in history dest
  pub attachments : (dest : Dest) → ForSome (attachment_of dest board.attachments) (IsAttachmentOf config policy history refused dest)

-- some history leads to the board
pub record HasHistory (board : BoardState) : Type 0 where
  pub config : Config
  pub policy : Policy
  pub history : List Entry
  pub on_run : IsOnRun board config policy history
