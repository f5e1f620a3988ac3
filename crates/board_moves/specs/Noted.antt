-- Who is noted in news, and what is counted in them.
use Rattle.std.specs.Prelude.{◌≡◌, ◌≢◌, ℕ, zero, suc, ◌+◌, ◌-◌, ◌/◌, ◌%◌, ◌^◌, ◌<◌, ◌⊎◌, ◌&&◌, ◌||◌, List, min, nat_lt, Bool, true, false, not, if◌then◌else◌, Option, Some, None, Result, Ok, Err, slice_index, ⊤}
use Rattle.std.specs.Int.{bit_at}
use Rattle.std.specs.Option.{option_map}
use Rattle.rows.specs.Rows.{change_first}
use Rattle.gateway_state.specs.Asked.{must_end, queued}
use Rattle.gateway_state.specs.Gateway.{Gateway}
use Rattle.gateway_state.specs.declared.event.Dest.{Dest}
use Rattle.gateway_state.specs.declared.event.Dest.TheVariants.{Session, Upstream}
use Rattle.gateway_state.specs.declared.event.Event.{Event}
use Rattle.gateway_state.specs.declared.event.Event.TheVariants as events
use Rattle.board_rings.specs.Attachments.{have_full, is_attachment_of, with_received}
use Rattle.board_rings.specs.Rings.{AttachmentState}
use Rattle.board_rings.specs.declared.inbound.Inbound.{Inbound}
use Rattle.board_rings.specs.declared.inbound.Inbound.TheVariants.{Message, Gone}
use Rattle.board_rings.specs.Board.{BoardState}
use Rattle.board_moves.specs.Held.{has_grown}
use Rattle.board_moves.specs.declared.fault.BoardFault.{BoardFault}
use Rattle.board_moves.specs.declared.news.News.{News}

-- the seat of a connection: one of 1,024 for clients, or one of as many behind these for servers
abbrev pub seat_of : Dest → ℕ
seat_of (Session number) = number % 1024
seat_of (Upstream number) = 1024 + number % 1024

-- the bit of a seat, among words of 64 seats
abbrev pub seat_bit : ℕ → List ℕ → ℕ
seat_bit seat words = bit_at (slice_index words (seat / 64)) (seat % 64)

abbrev pub IsNoted : Dest → News → Type 0
IsNoted dest news = seat_bit (seat_of dest) news.words ≡ 1

-- the seat is noted, and each other is as it was
pub record Notes (dest : Dest) (old new : List ℕ) : Type 0 where
  pub noted : seat_bit (seat_of dest) new ≡ 1
  pub others : (seat : ℕ) → seat ≢ seat_of dest → seat_bit seat new ≡ seat_bit seat old

-- who was noted still is
abbrev pub StayNoted : News → News → Type 0
StayNoted old new = (seat : ℕ) → seat_bit seat old.words ≡ 1 → seat_bit seat new.words ≡ 1

-- what is noted of the last round is as before
abbrev pub IsAsLeft : News → News → Type 0
IsAsLeft old new = (new.left ≡ old.left) × ((new.unsent ≡ old.unsent) × (new.grown ≡ old.grown))

-- so many more, up to the largest number that can be told
abbrev pub counted_on : ℕ → ℕ → ℕ
counted_on count zero = count
counted_on count (suc more) = min (count + suc more) (2 ^ 64 - 1)

-- an end is no message
abbrev pub is_message : Inbound → Bool
is_message (Message message) = true
is_message Gone = false

-- how many messages there are with one more, if it is one
abbrev pub counted_if : Bool → ℕ → ℕ
counted_if is count = if is then counted_on count 1 else count

-- the gateway stands, and the connection must end
abbrev pub IsEnding : Dest → Option Gateway → Type 0
IsEnding dest rows = option_map (λ w. must_end w dest) rows ≡ Some true

-- an item was received and performed: its connection is noted where that was its end or it must end now, and where its
-- ring in has come down to half or to nothing. Whether items were left in the ring is noted
pub record TellsPump (dest : Dest) (attachments left : List AttachmentState) (rows : Option Gateway) (old new : News) : Type 0 where
  pub item : Inbound
  pub seen : ℕ
  pub moved : left ≡ change_first (is_attachment_of dest) (with_received item seen) attachments
  pub gone : item ≡ Gone → IsNoted dest new
  pub ending : IsEnding dest rows → IsNoted dest new
  pub places : (seen ≡ 0) ⊎ (seen ≡ 128) → IsNoted dest new
  pub received : new.traffic.received ≡ counted_if (is_message item) old.traffic.received
  pub sent : new.traffic.sent ≡ old.traffic.sent
  pub left_in : new.left ≡ (old.left || nat_lt 0 seen)
  pub unsent : new.unsent ≡ old.unsent
  pub grown : new.grown ≡ old.grown

-- the same where a pump received one; where it received none nothing is noted or counted. Of a fault all are told, whoever is
-- noted
abbrev pub PumpTells : Dest → Result Bool BoardFault → List AttachmentState → List AttachmentState → Option Gateway → News → News → Type 0
PumpTells dest (Ok true) attachments left rows old new = TellsPump dest attachments left rows old new
PumpTells dest (Ok false) attachments left rows old new = new ≡ old
PumpTells dest (Err fault) attachments left rows old new = ⊤

-- so many messages were pushed: their connection is noted where there were some
pub record TellsPushed (dest : Dest) (count : ℕ) (old new : News) : Type 0 where
  pub some : 0 < count → IsNoted dest new
  pub sent : new.traffic.sent ≡ counted_on old.traffic.sent count
  pub received : new.traffic.received ≡ old.traffic.received
  pub left_in : new.left ≡ old.left
  pub unsent : new.unsent ≡ old.unsent
  pub grown : new.grown ≡ old.grown

-- how many messages wait for a connection
abbrev pub waiting_for : Dest → Option Gateway → ℕ
waiting_for dest None = 0
waiting_for dest (Some w) = queued w dest

-- of so many that waited so many were pushed. Where some were and some were not that is noted; and where not all were, whether
-- too much came to wait for a client
pub record TellsSent (dest : Dest) (waiting count : ℕ) (left : BoardState) (old new : News) : Type 0 where
  pub some : 0 < count → IsNoted dest new
  pub sent : new.traffic.sent ≡ counted_on old.traffic.sent count
  pub received : new.traffic.received ≡ old.traffic.received
  pub left_in : new.left ≡ old.left
  pub unsent : new.unsent ≡ (old.unsent || (nat_lt 0 count && nat_lt count waiting))
  pub grown : new.grown ≡ (old.grown || (nat_lt count waiting && has_grown dest left))

-- the same of a send-out that met no fault
abbrev pub SendTells : Dest → Result ℕ BoardFault → Option Gateway → BoardState → News → News → Type 0
SendTells dest (Ok count) rows left old new = TellsSent dest (waiting_for dest rows) count left old new
SendTells dest (Err fault) rows left old new = ⊤

-- the connection that is lost by an event
abbrev pub lost_by : Event → Option Dest
lost_by (events.Lost number) = Some (Session number)
lost_by (events.UpLost number) = Some (Upstream number)
lost_by event = None

-- what contracts see of a board: its rows and attachments, and whom its moves concern
pub record NotedBoard : Type 0 where
  pub rows : Option Gateway
  pub attachments : List AttachmentState
  pub news : News

-- a gateway's rows, attachments and news together
abbrev pub noted_of : Option Gateway → List AttachmentState → News → NotedBoard
noted_of rows attachments news = record { rows = rows; attachments = attachments; news = news }

-- the board without its news
abbrev pub bare : NotedBoard → BoardState
bare board = record { rows = board.rows; attachments = board.attachments }

-- a round begins: it saw no items or messages yet that it leaves, nor a client for which too much came to wait
abbrev pub begun : NotedBoard → NotedBoard
begun board = record board { news = record board.news { left = false; unsent = false; grown = false } }

-- the last round left no items that it saw and no messages behind others that it sent, too much came to wait for no client,
-- and for nobody too much was found to wait before it. So another round finds what came since, or places that became free;
-- who takes the last message out of a ring looks whether more wait
abbrev pub has_left_nothing : NotedBoard → Bool
has_left_nothing board = not ((board.news.left || board.news.unsent) || (board.news.grown || have_full board.attachments))
