-- One event, and runs of events.
use Rattle.std.specs.Prelude.{List, [], ◌∷◌, ◌++◌, take, Bool, not, ◌&&◌, if◌then◌else◌}
use Rattle.gateway_state.specs.declared.event.Dest.{Dest}
use Rattle.gateway_state.specs.declared.event.Event.{Event}
use Rattle.gateway_state.specs.declared.event.Event.TheVariants.{Drain}
use Rattle.fanout.specs.declared.outbox.Out.{Out}
use Rattle.gateway_state.specs.Asked.{is_open}
use Rattle.gateway_state.specs.Connections.{outbox_of, same_dest}
use Rattle.gateway_state.specs.Direct.{direct_effect}
use Rattle.gateway_state.specs.Gateway.{Gateway}
use Rattle.gateway_state.specs.Notices.{channels_told, links_told, reads_told}
use Rattle.gateway_state.specs.Updates.{updates_told, updates_withheld}

-- what follows from an event for everybody: the notices on channels, the updates that are withheld
-- from now on, the notices on links and on waiting reads, and the updates that are due
abbrev pub consequences : Gateway → Gateway
consequences w = updates_told (reads_told (links_told (updates_withheld (channels_told w))))

-- one event
unfoldable pub step : Gateway → Event → Gateway
step w event = consequences (direct_effect w event)

-- events in order
unfoldable pub run : Gateway → List Event → Gateway
run w [] = w
run w (event ∷ events) = run (step w event) events

-- what an event takes from a connection's outbox
abbrev pub taken : Gateway → Event → Dest → List Out
taken w (Drain from count) dest =
    if same_dest from dest then take count (outbox_of dest w.connections).messages else []
taken w event dest = []

-- what the events of a run take from a connection's outbox, in order
abbrev pub drained_messages : Gateway → List Event → Dest → List Out
drained_messages w [] dest = []
drained_messages w (event ∷ events) dest = taken w event dest ++ drained_messages (step w event) events dest

-- the event makes the connection's row
abbrev pub makes : Gateway → Event → Dest → Bool
makes w event dest = not (is_open w dest) && is_open (step w event) dest

-- what was delivered so far, once more events ran: what they took, and what waits at the end. A row
-- that is made anew begins anew
abbrev pub delivered_after : List Out → Gateway → List Event → Dest → List Out
delivered_after before w [] dest = before ++ (outbox_of dest w.connections).messages
delivered_after before w (event ∷ events) dest =
    delivered_after (if makes w event dest then [] else before ++ taken w event dest) (step w event) events dest

-- what was delivered to a connection that stands at the end of a run: what was taken from its outbox
-- since its row was last made, and what waits in it
abbrev pub delivered : Gateway → List Event → Dest → List Out
delivered w events dest = delivered_after [] w events dest
