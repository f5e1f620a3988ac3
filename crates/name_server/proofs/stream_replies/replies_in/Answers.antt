use Rattle.std.proofs.Common.{sym, ◌∙◌}
use Rattle.name_server.specs.StreamReplies.{stream_reply_of}
use Rattle.pv_search.proofs.Taking.{ended, reading-ends, reading-none, reading-some, taken}
use Rattle.name_server.proofs.stream_replies.replies_in.Goals as goal

pub loop-head-smaller-in-Continue-1 : goal.loop-head-smaller-in-Continue-1
loop-head-smaller-in-Continue-1 c =
    (taken c.loop-head.frames c.next.new.self c.in-Message.head c.in-Message.payload c.loop-head.invariant.fits c.in-Message.ensures).shorter

pub loop-head-preserved-in-Continue-1 : goal.loop-head-preserved-in-Continue-1
loop-head-preserved-in-Continue-1 c =
    let message = taken c.loop-head.frames c.next.new.self c.in-Message.head c.in-Message.payload c.loop-head.invariant.fits c.in-Message.ensures in
    rw c.in_ok-push.ensures.items (reading-some stream_reply_of _ _ _ _ _ _ message c.loop-head.invariant (sym (c.reply_in.ensures) ∙ c.in-Some.is))

pub loop-head-smaller : goal.loop-head-smaller
loop-head-smaller c =
    (taken c.loop-head.frames c.next.new.self c.in-Message.head c.in-Message.payload c.loop-head.invariant.fits c.in-Message.ensures).shorter

pub loop-head-preserved : goal.loop-head-preserved
loop-head-preserved c =
    let message = taken c.loop-head.frames c.next.new.self c.in-Message.head c.in-Message.payload c.loop-head.invariant.fits c.in-Message.ensures in
    reading-none stream_reply_of _ _ _ _ _ message c.loop-head.invariant (sym (c.reply_in.ensures) ∙ c.in_default-reply_in.is)

pub returns : goal.returns
returns c =
    let end = ended c.loop-head.frames c.next.new.self c.next.result c.loop-head.invariant.fits c.next.ensures c.in_default.not-Message in
    reading-ends stream_reply_of _ _ _ end.0 c.loop-head.invariant end.1
