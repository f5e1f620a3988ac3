use Rattle.std.proofs.Common.{◌≡◌, [], true}
use Rattle.std.specs.Io.KnownBytes.{Keeps}
use Rattle.session_worker.specs.Sending.{Sends}
use Rattle.session_worker.proofs.writer.serve_out.Given as goal

-- the messages that were taken so far are in the buffer, or written
abbrev pub invariant-loop : goal.invariant-loop
invariant-loop g l =
    ((goal.iterator-loop g).can_next l.iterator' × (goal.iterator-loop g).is_finite l.iterator')
    × (Sends true (record { written = g.L.Link.written l.fn.link; failed = g.L.Link.failed l.fn.link; taken = l.fn.outlet.taken; buffer = record { held = []; count = 0 } })
    (record { written = g.L.Link.written l.link; failed = g.L.Link.failed l.link; taken = l.outlet.taken; buffer = l.buffer })
    × ((l.outlet.ring ≡ l.fn.outlet.ring) × (Keeps (g.L.Link.unread l.fn.link) (g.L.Link.unread l.link) × ((l.outlet.stops ≡ l.fn.outlet.stops) × (l.outlet.ends ≡ l.fn.outlet.ends)))))
