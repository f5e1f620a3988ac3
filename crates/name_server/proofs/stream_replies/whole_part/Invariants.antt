use Rattle.std.proofs.Common.{◌-◌, length}
use Rattle.name_server.proofs.Wholes.{IsSoFar}
use Rattle.name_server.proofs.stream_replies.whole_part.Given as goal

-- the first bytes are whole messages
abbrev pub invariant-loop-message : goal.invariant-loop-message
invariant-loop-message l = IsSoFar l.bytes l.len

abbrev pub decreases-loop-message : goal.decreases-loop-message
decreases-loop-message l = length l.bytes - l.len
