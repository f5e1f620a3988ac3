use Rattle.std.proofs.Common.{◌≡◌, [], length}
use Rattle.std.specs.Io.KnownBytes.{Keeps}
use Rattle.ca_header.specs.Spelling.{IsBytes}
use Rattle.session_worker.specs.Serving.{GoesOn}
use Rattle.session_worker.specs.declared.reader.TheConstants.{PIECE_SIZE}
use Rattle.session_worker.proofs.reader.hear_all.Given as goal

-- the reader has gone on so far
abbrev pub invariant-loop : goal.invariant-loop
invariant-loop g l =
    ((goal.iterator-loop g).can_next l.iterator' × (goal.iterator-loop g).is_finite l.iterator')
    × (GoesOn
    (record { unread = g.L.Link.unread l.fn.link; failed = g.L.Link.failed l.fn.link; offered = l.fn.inlet.offered; stops = l.fn.inlet.stops })
    (record { unread = g.L.Link.unread l.link; failed = g.L.Link.failed l.link; offered = l.inlet.offered; stops = l.inlet.stops })
    []
    l.intake
    × (IsBytes l.intake × ((length l.buffer ≡ PIECE_SIZE) × ((l.inlet.ring ≡ l.fn.inlet.ring) × Keeps (g.L.Link.written l.fn.link) (g.L.Link.written l.link)))))
