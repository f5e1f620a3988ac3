use Rattle.std.proofs.Common.{length, ◌-◌}
use Rattle.std.specs.Io.KnownBytes.{Keeps}
use Rattle.session_worker.proofs.Writings.{WritesTo}
use Rattle.session_worker.proofs.out_buffer.write_all.Given as goal

-- the bytes before this place were written
abbrev pub invariant-loop-at : goal.invariant-loop-at
invariant-loop-at g l =
    WritesTo l.bytes l.at (record { written = g.L.Link.written l.fn.link; failed = g.L.Link.failed l.fn.link; count = l.fn.written })
    (record { written = g.L.Link.written l.link; failed = g.L.Link.failed l.link; count = l.written })
    × Keeps (g.L.Link.unread l.fn.link) (g.L.Link.unread l.link)

abbrev pub decreases-loop-at : goal.decreases-loop-at
decreases-loop-at g l = length l.bytes - l.at
