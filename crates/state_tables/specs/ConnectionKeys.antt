-- The keys under which connections are found.
use Rattle.std.specs.Prelude.{◌≡◌, List, map}
use Rattle.row_index.specs.declared.key.Key.{Key}
use Rattle.row_index.specs.Rows.{row_of, value_at}
use Rattle.named_rows.specs.Indexes.{keyed}
use Rattle.gateway_state.specs.declared.event.Dest.{Dest}
use Rattle.gateway_state.specs.declared.event.Dest.TheVariants.{Session, Upstream}
use Rattle.gateway_state.specs.declared.connections.Connection.{Connection}
use Rattle.gateway_state.specs.Connections.{outbox_in}
use Rattle.fanout.specs.Waiting.{Waiting}

-- a connection's number, and which kind it is
abbrev pub key_of : Dest → Key
key_of (Session number) = record { owner = number; id = 0 }
key_of (Upstream number) = record { owner = number; id = 1 }

-- the key of a row
abbrev pub connection_key : Connection → Key
connection_key row = key_of row.dest

-- the rows, each under its key
abbrev pub AreKeyed : List (Key × Connection) → Type 0
AreKeyed entries = entries ≡ keyed connection_key (map row_of entries)

-- the outbox of the row under a key, an empty one where there is none
abbrev pub outbox_under : Key → List (Key × Connection) → Waiting
outbox_under key entries = outbox_in (value_at key entries)
