use Rattle.session_worker.proofs.Dropping.{drops_more, drops_none, dropped_to_end, dropped_to_stop}
use Rattle.session_worker.proofs.writer.drop_rest.Goals as goal

pub loop-init : goal.loop-init
loop-init g c = ((tt, tt), drops_none c.args.outlet.now)

-- one message more was dropped
pub loop-preserved : goal.loop-preserved
loop-preserved g c =
    ((tt, tt), drops_more c.args.outlet.now c.loop.outlet c.wait_for_out.new.outlet c.in-Item.out c.loop.invariant.1 c.in-Item.ensures.taken c.wait_for_out.ensures.ring c.in-Item.ensures.told.0 c.in-Item.ensures.told.1)

pub returns-in-Closed : goal.returns-in-Closed
returns-in-Closed g c =
    record { dropped = dropped_to_end c.args.dest c.args.outlet.now c.loop.outlet c.wait_for_out.new.outlet c.loop.invariant.1 c.in-Closed.ensures.taken c.wait_for_out.ensures.ring c.in-Closed.ensures.told.0 c.in-Closed.ensures.told.1 }

pub returns-in-Stopped : goal.returns-in-Stopped
returns-in-Stopped g c =
    record { dropped = dropped_to_stop c.args.dest c.args.outlet.now c.loop.outlet c.wait_for_out.new.outlet c.loop.invariant.1 c.in-Stopped.ensures.taken c.wait_for_out.ensures.ring c.in-Stopped.ensures.told }
