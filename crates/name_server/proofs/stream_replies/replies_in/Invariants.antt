use Rattle.std.proofs.Common.{length}
use Rattle.name_server.specs.StreamReplies.{stream_reply_of}
use Rattle.pv_search.proofs.Taking.{IsReading}
use Rattle.name_server.proofs.stream_replies.replies_in.Given as goal

-- the replies so far, and those of the framing of what is left, are those of all
abbrev pub invariant-loop-head : goal.invariant-loop-head
invariant-loop-head l = IsReading stream_reply_of l.fn.bytes l.frames l.replies.items

abbrev pub decreases-loop-head : goal.decreases-loop-head
decreases-loop-head l = length l.frames
