use Rattle.std.proofs.Common.{◌∙◌, false, refl, true}
use Rattle.session_worker.proofs.Keeping.{keeps_on, keeps_same}
use Rattle.session_worker.specs.Sending.{Sending}
use Rattle.session_worker.proofs.Sending.{sends_more, sends_none, sends_one}
use Rattle.session_worker.proofs.writer.put_waiting.Goals as goal

pub loop-init : goal.loop-init
loop-init g c = (sends_none _, (refl, (keeps_same (g.L.Link.unread c.args.link.now), (refl, refl))))

-- the link failed at the message that was taken last
pub returns-in-Err-clause-sent : goal.returns-in-Err-clause-sent
returns-in-Err-clause-sent g c =
    let start : Sending = record { written = g.L.Link.written c.args.link.now; failed = g.L.Link.failed c.args.link.now; taken = c.args.outlet.now.taken; buffer = c.args.buffer.now } in
    let at : Sending = record { written = g.L.Link.written c.loop.link; failed = g.L.Link.failed c.loop.link; taken = c.loop.outlet.taken; buffer = c.loop.buffer } in
    let now : Sending = record { written = g.L.Link.written c.put_out.new.link; failed = g.L.Link.failed c.put_out.new.link; taken = c.next.new.self.taken; buffer = c.put_out.new.buffer } in
    sends_more false start at now c.loop.invariant.0 (sends_one false at now c.in-Some.out c.in-Some.ensures.some c.in-Err.ensures.written)

-- one message more was taken and put
pub loop-preserved : goal.loop-preserved
loop-preserved g c =
    let start : Sending = record { written = g.L.Link.written c.args.link.now; failed = g.L.Link.failed c.args.link.now; taken = c.args.outlet.now.taken; buffer = c.args.buffer.now } in
    let at : Sending = record { written = g.L.Link.written c.loop.link; failed = g.L.Link.failed c.loop.link; taken = c.loop.outlet.taken; buffer = c.loop.buffer } in
    let now : Sending = record { written = g.L.Link.written c.put_out.new.link; failed = g.L.Link.failed c.put_out.new.link; taken = c.next.new.self.taken; buffer = c.put_out.new.buffer } in (
      sends_more true start at now c.loop.invariant.0 (sends_one true at now c.in-Some.out c.in-Some.ensures.some c.in-Ok.ensures.written),
      (
        c.next.ensures.ring ∙ c.loop.invariant.1.0,
        (
          keeps_on (g.L.Link.unread c.args.link.now) (g.L.Link.unread c.loop.link) (g.L.Link.unread c.put_out.new.link) c.loop.invariant.1.1.0 c.put_out.ensures.kept,
          (c.next.ensures.told.0 ∙ c.loop.invariant.1.1.1.0, c.next.ensures.told.1 ∙ c.loop.invariant.1.1.1.1),
        ),
      ),
    )
