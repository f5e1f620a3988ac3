-- Which connections are held.
use Rattle.std.specs.Prelude.{ℕ, Bool, true, false, not, ◌&&◌, ◌||◌, nat_lt, List, Option, Some, None}
use Rattle.gateway_state.specs.Asked.{queued, queued_bytes}
use Rattle.gateway_state.specs.Serving.{server_of}
use Rattle.gateway_state.specs.Gateway.{Gateway}
use Rattle.gateway_state.specs.declared.event.Dest.{Dest}
use Rattle.gateway_state.specs.declared.event.Dest.TheVariants.{Session, Upstream}
use Rattle.board_rings.specs.Attachments.{have_full, is_full, last_sid_of}
use Rattle.board_rings.specs.Rings.{AttachmentState}
use Rattle.board_rings.specs.Board.{BoardState}
use Rattle.board_moves.specs.declared.news.News.{News}
use Rattle.board_moves.specs.declared.share.TheConstants.{HELD_BYTES, HELD_CLIENT_BYTES, HELD_MESSAGES}

-- too much waits for a connection: for a client in bytes, for a server in messages or in bytes
abbrev pub has_too_much : Dest → Option Gateway → Bool
has_too_much (Session number) None = false
has_too_much (Session number) (Some w) = nat_lt HELD_CLIENT_BYTES (queued_bytes w (Session number))
has_too_much (Upstream number) None = false
has_too_much (Upstream number) (Some w) = nat_lt HELD_MESSAGES (queued w (Upstream number)) || nat_lt HELD_BYTES (queued_bytes w (Upstream number))

-- too much waits for a client of which that isn't noted. For servers there is room for what a batch brings
abbrev pub has_grown : Dest → BoardState → Bool
has_grown (Session number) board = not (is_full (Session number) board.attachments) && has_too_much (Session number) board.rows
has_grown (Upstream number) board = false

-- clients are weighed where too much came to wait for one in the last round, or is noted of somebody; servers always are
abbrev pub weighs_clients : News → List AttachmentState → Bool
weighs_clients news attachments = news.grown || have_full attachments

abbrev pub is_weighed : Bool → Dest → Bool
is_weighed clients (Session number) = clients
is_weighed clients (Upstream number) = true

-- the server on whose link the channel of a session's request stands
abbrev pub server_for : Option Gateway → ℕ → Option ℕ → Option ℕ
server_for None number sid = None
server_for (Some w) number None = None
server_for (Some w) number (Some sid) = server_of w number sid

abbrev pub is_full_server : Option ℕ → List AttachmentState → Bool
is_full_server None attachments = false
is_full_server (Some server) attachments = is_full (Upstream server) attachments

-- too much waited for a client when it was weighed; or for the server that its last request reached, and its end doesn't
-- come
abbrev pub is_held : Dest → BoardState → Bool
is_held (Upstream number) board = false
is_held (Session number) board =
    is_full (Session number) board.attachments || is_full_server (server_for board.rows number (last_sid_of (Session number) board.attachments)) board.attachments
