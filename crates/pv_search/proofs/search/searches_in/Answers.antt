use Rattle.std.proofs.Common.{sym, ◌∙◌}
use Rattle.pv_search.specs.Search.{search_of}
use Rattle.pv_search.proofs.Taking.{ended, reading-ends, reading-none, reading-some, taken}
use Rattle.pv_search.proofs.search.searches_in.Goals as goal

pub loop-head-smaller-in-Continue-1 : goal.loop-head-smaller-in-Continue-1
loop-head-smaller-in-Continue-1 c =
    (taken c.loop-head.frames c.next.new.self c.in-Message.head c.in-Message.payload c.loop-head.invariant.fits c.in-Message.ensures).shorter

pub loop-head-preserved-in-Continue-1 : goal.loop-head-preserved-in-Continue-1
loop-head-preserved-in-Continue-1 c =
    let message = taken c.loop-head.frames c.next.new.self c.in-Message.head c.in-Message.payload c.loop-head.invariant.fits c.in-Message.ensures in
    rw c.in_ok-push.ensures.items (reading-some search_of _ _ _ _ _ _ message c.loop-head.invariant (sym c.read_search.ensures ∙ c.in-Some.is))

pub loop-head-smaller : goal.loop-head-smaller
loop-head-smaller c =
    (taken c.loop-head.frames c.next.new.self c.in-Message.head c.in-Message.payload c.loop-head.invariant.fits c.in-Message.ensures).shorter

pub loop-head-preserved : goal.loop-head-preserved
loop-head-preserved c =
    let message = taken c.loop-head.frames c.next.new.self c.in-Message.head c.in-Message.payload c.loop-head.invariant.fits c.in-Message.ensures in
    reading-none search_of _ _ _ _ _ message c.loop-head.invariant (sym c.read_search.ensures ∙ c.in_default-read_search.is)

pub returns : goal.returns
returns c =
    let end = ended c.loop-head.frames c.next.new.self c.next.result c.loop-head.invariant.fits c.next.ensures c.in_default.not-Message in
    reading-ends search_of _ _ _ end.0 c.loop-head.invariant end.1
