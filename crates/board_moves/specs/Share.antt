-- How many messages are sent out at once.
use Rattle.std.specs.Prelude.{ℕ, ◌-◌, ◌*◌, ◌/◌, nat_le, min, max, if◌then◌else◌, Option}
use Rattle.std.specs.Option.{option_map}
use Rattle.gateway_state.specs.Asked.{queued, queued_bytes}
use Rattle.gateway_state.specs.declared.event.Dest.{Dest}
use Rattle.board_rings.specs.OnTheWay.{bytes_to}
use Rattle.board_rings.specs.Board.{BoardState}
use Rattle.board_rings.specs.declared.entry.TheConstants.{MOST_SENT}
use Rattle.board_moves.specs.declared.share.TheConstants.{RING_BYTES}

-- where so many places of the ring are free, so many messages with so many bytes wait, and so many bytes are on
-- their way: none where the bound is reached; all that wait where they stay below it, as many as places are free and up
-- to 64; and else as many of these as would fit if all were equally long, and at least one
abbrev pub sent_at_once : ℕ → ℕ → ℕ → ℕ → ℕ
sent_at_once places waiting bytes on_the_way =
    if nat_le RING_BYTES on_the_way then 0
    else (if nat_le bytes (RING_BYTES - on_the_way) then min waiting (min MOST_SENT places)
    else max 1 (min (min MOST_SENT places) ((RING_BYTES - on_the_way) * waiting / bytes)))

-- the same of a connection on a board, where so many places of its ring are free; nothing on a board that has failed
abbrev pub share : Dest → ℕ → BoardState → Option ℕ
share dest places board =
    option_map (λ w. sent_at_once places (queued w dest) (queued_bytes w dest) (bytes_to dest places board.attachments)) board.rows
