-- The outboxes of all connections.
use Rattle.std.specs.Prelude.{ℕ, max, List, [], Bool, true, false, not, ◌==◌, Option, Some, None}
use Rattle.std.specs.List.{find}
use Rattle.gateway_state.specs.declared.event.Dest.{Dest}
use Rattle.gateway_state.specs.declared.event.Dest.TheVariants.{Session, Upstream}
use Rattle.gateway_state.specs.declared.connections.Connection.{Connection}
use Rattle.gateway_state.specs.declared.limits.Limits.{Limits}
use Rattle.fanout.specs.declared.outbox.Out.{Out}
use Rattle.fanout.specs.declared.outbox.TheConstants.{OUTBOX_LIMIT}
use Rattle.fanout.specs.Outbox.{appended, without_first}
use Rattle.fanout.specs.Waiting.{Waiting}

-- the same connection
abbrev pub same_dest : Dest → Dest → Bool
same_dest (Session a) (Session b) = a == b
same_dest (Upstream a) (Upstream b) = a == b
same_dest (Session a) (Upstream b) = false
same_dest (Upstream a) (Session b) = false

-- the row of this connection
abbrev pub is_to : Dest → Connection → Bool
is_to dest row = same_dest row.dest dest

-- the row of another
abbrev pub is_not_to : Dest → Connection → Bool
is_not_to dest row = not (is_to dest row)

-- how many messages may wait for a connection at most: for a server as many as for a session, and no fewer than usual
abbrev pub most_for : Limits → Dest → ℕ
most_for limits (Session number) = limits.messages
most_for limits (Upstream number) = max limits.messages OUTBOX_LIMIT

-- with a message put last in its outbox, where so many may wait
abbrev pub given : ℕ → Out → Connection → Connection
given most out row = record row { outbox = appended most row.outbox out }

-- marked to end
abbrev pub marked_now : Connection → Connection
marked_now row = record row { outbox = record row.outbox { marked = true } }

-- without the oldest messages of its outbox
abbrev pub relieved : ℕ → Connection → Connection
relieved count row = record row { outbox = without_first count row.outbox }

-- an outbox in which nothing waits
abbrev pub empty : Waiting
empty = record { messages = []; marked = false }

-- a connection for which nothing waits
abbrev pub fresh : Dest → Connection
fresh dest = record { dest = dest; outbox = empty }

-- the outbox of a row, or an empty one
abbrev pub outbox_in : Option Connection → Waiting
outbox_in (Some row) = row.outbox
outbox_in None = empty

-- the outbox of a connection, an empty one where it doesn't stand
abbrev pub outbox_of : Dest → List Connection → Waiting
outbox_of dest rows = outbox_in (find (is_to dest) rows)
