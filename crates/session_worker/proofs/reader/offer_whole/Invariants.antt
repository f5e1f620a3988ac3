use Rattle.std.proofs.Common.{◌≡◌, ◌≤◌}
use Rattle.ca_header.specs.Spelling.{IsBytes}
use Rattle.session_worker.specs.Serving.{Offers}
use Rattle.session_worker.proofs.reader.offer_whole.Given as goal

-- the messages taken so far were offered, and bytes are held
abbrev pub invariant-loop : goal.invariant-loop
invariant-loop g l =
    ((goal.iterator-loop g).can_next l.iterator' × (goal.iterator-loop g).is_finite l.iterator')
    × (Offers l.fn.intake l.intake l.fn.inlet.offered l.inlet.offered × (IsBytes l.intake × ((l.inlet.ring ≡ l.fn.inlet.ring) × (l.fn.inlet.stops ≤ l.inlet.stops))))
