use Rattle.std.proofs.Common.{length}
use Rattle.pv_search.specs.Replies.{reply_of}
use Rattle.pv_search.proofs.Taking.{IsReading}
use Rattle.pv_search.proofs.replies.read_replies.Given as goal

-- the replies so far, and those of the framing of what is left, are those of all
abbrev pub invariant-loop-head : goal.invariant-loop-head
invariant-loop-head l = IsReading reply_of l.fn.datagram l.frames l.replies.items

abbrev pub decreases-loop-head : goal.decreases-loop-head
decreases-loop-head l = length l.frames
