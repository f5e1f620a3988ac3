use Rattle.std.proofs.Common.{length}
use Rattle.pv_search.specs.Found.{found_cid}
use Rattle.pv_search.proofs.Taking.{IsReading}
use Rattle.pv_search.proofs.found.read_found.Given as goal

-- the CIDs so far, and those of the framing of what is left, are those of all
abbrev pub invariant-loop-head : goal.invariant-loop-head
invariant-loop-head l = IsReading found_cid l.fn.datagram l.frames l.cids.items

abbrev pub decreases-loop-head : goal.decreases-loop-head
decreases-loop-head l = length l.frames
