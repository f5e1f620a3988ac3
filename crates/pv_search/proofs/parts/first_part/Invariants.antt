use Rattle.std.proofs.Common.{◌-◌, length}
use Rattle.pv_search.proofs.Cutting.{IsCutting}
use Rattle.pv_search.proofs.parts.first_part.Given as goal

-- the first bytes are whole messages, and so many of them searches
abbrev pub invariant-loop-message : goal.invariant-loop-message
invariant-loop-message l = IsCutting l.datagram l.most l.len l.searches

abbrev pub decreases-loop-message : goal.decreases-loop-message
decreases-loop-message l = length l.datagram - l.len
