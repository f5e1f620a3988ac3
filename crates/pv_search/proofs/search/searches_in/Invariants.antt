use Rattle.std.proofs.Common.{length}
use Rattle.pv_search.specs.Search.{search_of}
use Rattle.pv_search.proofs.Taking.{IsReading}
use Rattle.pv_search.proofs.search.searches_in.Given as goal

-- the searches so far, and those of the framing of what is left, are those of all
abbrev pub invariant-loop-head : goal.invariant-loop-head
invariant-loop-head l = IsReading search_of l.fn.datagram l.frames l.searches.items

abbrev pub decreases-loop-head : goal.decreases-loop-head
decreases-loop-head l = length l.frames
