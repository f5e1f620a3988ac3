-- What the gateway answers about its connections.
use Rattle.std.specs.Prelude.{ℕ, Bool, not, ◌&&◌, length}
use Rattle.std.specs.List.{list_any}
use Rattle.fanout.specs.Waiting.{waiting_bytes}
use Rattle.gateway_state.specs.declared.event.Dest.{Dest}
use Rattle.gateway_state.specs.Connections.{is_to, outbox_of}
use Rattle.gateway_state.specs.Gateway.{Gateway}

-- whether the connection stands
abbrev pub is_open : Gateway → Dest → Bool
is_open w dest = list_any (is_to dest) w.connections

-- whether it stands and must end
abbrev pub must_end : Gateway → Dest → Bool
must_end w dest = (outbox_of dest w.connections).marked

-- how many messages wait for it
abbrev pub queued : Gateway → Dest → ℕ
queued w dest = length (outbox_of dest w.connections).messages

-- how many bytes they have, as far as a number of 64 bits tells it
abbrev pub queued_bytes : Gateway → Dest → ℕ
queued_bytes w dest = waiting_bytes (outbox_of dest w.connections)

-- a connection's messages have an effect: it stands and isn't marked
abbrev pub acts : Gateway → Dest → Bool
acts w dest = is_open w dest && not (must_end w dest)
