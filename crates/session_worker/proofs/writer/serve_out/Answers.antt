use Rattle.std.proofs.Common.{◌∙◌, ◌≡◌, ℕ, ◌<◌, [], false, true, refl, subst, sym}
use Rattle.session_worker.specs.Writing.{BufferState}
use Rattle.board_rings.specs.Told.{TimesTold}
use Rattle.session_worker.proofs.Keeping.{keeps_on, keeps_same}
use Rattle.session_worker.specs.Sending.{IsServedOut, Sending, Sends}
use Rattle.session_worker.specs.declared.writer.OutEnd.TheVariants as ends
use Rattle.session_worker.proofs.Sending.{sends_more, sends_none, sends_one, served_to_end, served_to_fault, served_to_stop, standing_of}
use Rattle.session_worker.proofs.writer.serve_out.Goals as goal

-- nothing was taken, and the buffer is empty
pub loop-init : goal.loop-init
loop-init g c =
    let start : Sending = record { written = g.L.Link.written c.args.link.now; failed = g.L.Link.failed c.args.link.now; taken = c.args.outlet.now.taken; buffer = record { held = []; count = 0 } } in
    ((tt, tt), (subst (λ (b : BufferState). Sends true start (record start { buffer = b })) (sym c.new-buffer.ensures) (sends_none start), (refl, (keeps_same (g.L.Link.unread c.args.link.now), (refl, refl)))))

-- the link failed at what was there
pub returns-in-Err-clause-served : goal.returns-in-Err-clause-served
returns-in-Err-clause-served g c =
    let start : Sending = record { written = g.L.Link.written c.args.link.now; failed = g.L.Link.failed c.args.link.now; taken = c.args.outlet.now.taken; buffer = record { held = []; count = 0 } } in
    let at : Sending = record { written = g.L.Link.written c.loop.link; failed = g.L.Link.failed c.loop.link; taken = c.loop.outlet.taken; buffer = c.loop.buffer } in
    let now : Sending = record { written = g.L.Link.written c.write_waiting.new.link; failed = g.L.Link.failed c.write_waiting.new.link; taken = c.write_waiting.new.outlet.taken; buffer = c.write_waiting.new.buffer } in
    subst (λ (n : ℕ). IsServedOut c.args.dest (ends.WriteFault n) (standing_of start c.args.outlet.now.stops c.args.outlet.now.ends) (standing_of now c.write_waiting.new.outlet.stops c.write_waiting.new.outlet.ends)) (sym c.written.ensures)
    (served_to_fault c.args.dest start now c.args.outlet.now.stops c.write_waiting.new.outlet.stops c.args.outlet.now.ends c.write_waiting.new.outlet.ends refl (sends_more false start at now c.loop.invariant.1.0 c.in-Err.ensures.sent))

pub returns-in-Closed-clause-served : goal.returns-in-Closed-clause-served
returns-in-Closed-clause-served g c =
    let start : Sending = record { written = g.L.Link.written c.args.link.now; failed = g.L.Link.failed c.args.link.now; taken = c.args.outlet.now.taken; buffer = record { held = []; count = 0 } } in
    let at : Sending = record { written = g.L.Link.written c.loop.link; failed = g.L.Link.failed c.loop.link; taken = c.loop.outlet.taken; buffer = c.loop.buffer } in
    let now : Sending = record { written = g.L.Link.written c.write_waiting.new.link; failed = g.L.Link.failed c.write_waiting.new.link; taken = c.write_waiting.new.outlet.taken; buffer = c.write_waiting.new.buffer } in
    let ends_stay : c.write_waiting.new.outlet.ends ≡ c.args.outlet.now.ends = c.write_waiting.ensures.told.1 ∙ c.loop.invariant.1.1.1.1.1 in
    served_to_end c.args.dest start now c.wait_for_out.new.outlet.taken c.args.outlet.now.stops c.wait_for_out.new.outlet.stops c.args.outlet.now.ends c.wait_for_out.new.outlet.ends refl
    (sends_more true start at now c.loop.invariant.1.0 c.in-Ok.ensures.sent) c.in-Ok.ensures.none c.in-Closed.ensures.taken
    (subst (λ (told : TimesTold). told.times < c.wait_for_out.new.outlet.ends.times) ends_stay c.in-Closed.ensures.told.0) c.in-Closed.ensures.told.1

pub returns-in-Stopped-clause-served : goal.returns-in-Stopped-clause-served
returns-in-Stopped-clause-served g c =
    let start : Sending = record { written = g.L.Link.written c.args.link.now; failed = g.L.Link.failed c.args.link.now; taken = c.args.outlet.now.taken; buffer = record { held = []; count = 0 } } in
    let at : Sending = record { written = g.L.Link.written c.loop.link; failed = g.L.Link.failed c.loop.link; taken = c.loop.outlet.taken; buffer = c.loop.buffer } in
    let now : Sending = record { written = g.L.Link.written c.write_waiting.new.link; failed = g.L.Link.failed c.write_waiting.new.link; taken = c.write_waiting.new.outlet.taken; buffer = c.write_waiting.new.buffer } in
    let stops_stay : c.write_waiting.new.outlet.stops ≡ c.args.outlet.now.stops = c.write_waiting.ensures.told.0 ∙ c.loop.invariant.1.1.1.1.0 in
    served_to_stop c.args.dest start now c.wait_for_out.new.outlet.taken c.args.outlet.now.stops c.wait_for_out.new.outlet.stops c.args.outlet.now.ends c.wait_for_out.new.outlet.ends refl
    (sends_more true start at now c.loop.invariant.1.0 c.in-Ok.ensures.sent) c.in-Ok.ensures.none c.in-Stopped.ensures.taken
    (subst (λ (told : ℕ). told < c.wait_for_out.new.outlet.stops) stops_stay c.in-Stopped.ensures.told)

-- the link failed at the message that was waited for
pub returns-in-Err-put_out-clause-served : goal.returns-in-Err-put_out-clause-served
returns-in-Err-put_out-clause-served g c =
    let start : Sending = record { written = g.L.Link.written c.args.link.now; failed = g.L.Link.failed c.args.link.now; taken = c.args.outlet.now.taken; buffer = record { held = []; count = 0 } } in
    let at : Sending = record { written = g.L.Link.written c.loop.link; failed = g.L.Link.failed c.loop.link; taken = c.loop.outlet.taken; buffer = c.loop.buffer } in
    let now : Sending = record { written = g.L.Link.written c.write_waiting.new.link; failed = g.L.Link.failed c.write_waiting.new.link; taken = c.write_waiting.new.outlet.taken; buffer = c.write_waiting.new.buffer } in
    let later : Sending = record { written = g.L.Link.written c.put_out.new.link; failed = g.L.Link.failed c.put_out.new.link; taken = c.wait_for_out.new.outlet.taken; buffer = c.put_out.new.buffer } in
    subst (λ (n : ℕ). IsServedOut c.args.dest (ends.WriteFault n) (standing_of start c.args.outlet.now.stops c.args.outlet.now.ends) (standing_of later c.wait_for_out.new.outlet.stops c.wait_for_out.new.outlet.ends)) (sym c.written-in-Err-put_out.ensures)
    (served_to_fault c.args.dest start later c.args.outlet.now.stops c.wait_for_out.new.outlet.stops c.args.outlet.now.ends c.wait_for_out.new.outlet.ends refl (sends_more false start now later (sends_more true start at now c.loop.invariant.1.0 c.in-Ok.ensures.sent)
    (sends_one false now later c.in-Item.out c.in-Item.ensures.taken c.in-Err-put_out.ensures.written)))

pub loop-preserved-in-Ok-put_out : goal.loop-preserved-in-Ok-put_out
loop-preserved-in-Ok-put_out g c =
    let start : Sending = record { written = g.L.Link.written c.args.link.now; failed = g.L.Link.failed c.args.link.now; taken = c.args.outlet.now.taken; buffer = record { held = []; count = 0 } } in
    let at : Sending = record { written = g.L.Link.written c.loop.link; failed = g.L.Link.failed c.loop.link; taken = c.loop.outlet.taken; buffer = c.loop.buffer } in
    let now : Sending = record { written = g.L.Link.written c.write_waiting.new.link; failed = g.L.Link.failed c.write_waiting.new.link; taken = c.write_waiting.new.outlet.taken; buffer = c.write_waiting.new.buffer } in
    let later : Sending = record { written = g.L.Link.written c.put_out.new.link; failed = g.L.Link.failed c.put_out.new.link; taken = c.wait_for_out.new.outlet.taken; buffer = c.put_out.new.buffer } in
    let kept = c.loop.invariant.1 in
    let before = keeps_on (g.L.Link.unread c.args.link.now) (g.L.Link.unread c.loop.link) (g.L.Link.unread c.write_waiting.new.link) kept.1.1.0 c.write_waiting.ensures.kept in (
      (tt, tt),
      (
        sends_more true start now later (sends_more true start at now kept.0 c.in-Ok.ensures.sent)
            (sends_one true now later c.in-Item.out c.in-Item.ensures.taken c.in-Ok-put_out.ensures.written),
        (
          c.wait_for_out.ensures.ring ∙ (c.write_waiting.ensures.ring ∙ kept.1.0),
          (
            keeps_on (g.L.Link.unread c.args.link.now) (g.L.Link.unread c.write_waiting.new.link) (g.L.Link.unread c.put_out.new.link) before c.put_out.ensures.kept,
            (c.in-Item.ensures.told.0 ∙ (c.write_waiting.ensures.told.0 ∙ kept.1.1.1.0), c.in-Item.ensures.told.1 ∙ (c.write_waiting.ensures.told.1 ∙ kept.1.1.1.1)),
          ),
        ),
      ),
    )

pub loop-preserved : goal.loop-preserved
loop-preserved g c =
    let start : Sending = record { written = g.L.Link.written c.args.link.now; failed = g.L.Link.failed c.args.link.now; taken = c.args.outlet.now.taken; buffer = record { held = []; count = 0 } } in
    let at : Sending = record { written = g.L.Link.written c.loop.link; failed = g.L.Link.failed c.loop.link; taken = c.loop.outlet.taken; buffer = c.loop.buffer } in
    let now : Sending = record { written = g.L.Link.written c.write_waiting.new.link; failed = g.L.Link.failed c.write_waiting.new.link; taken = c.write_waiting.new.outlet.taken; buffer = c.write_waiting.new.buffer } in
    let later : Sending = record { written = g.L.Link.written c.put_out.new.link; failed = g.L.Link.failed c.put_out.new.link; taken = c.wait_for_out.new.outlet.taken; buffer = c.put_out.new.buffer } in
    let kept = c.loop.invariant.1 in
    let before = keeps_on (g.L.Link.unread c.args.link.now) (g.L.Link.unread c.loop.link) (g.L.Link.unread c.write_waiting.new.link) kept.1.1.0 c.write_waiting.ensures.kept in (
      (tt, tt),
      (
        sends_more true start now later (sends_more true start at now kept.0 c.in-Ok.ensures.sent)
            (sends_one true now later c.in-Item.out c.in-Item.ensures.taken c.in-Ok-put_out.ensures.written),
        (
          c.wait_for_out.ensures.ring ∙ (c.write_waiting.ensures.ring ∙ kept.1.0),
          (
            keeps_on (g.L.Link.unread c.args.link.now) (g.L.Link.unread c.write_waiting.new.link) (g.L.Link.unread c.put_out.new.link) before c.put_out.ensures.kept,
            (c.in-Item.ensures.told.0 ∙ (c.write_waiting.ensures.told.0 ∙ kept.1.1.1.0), c.in-Item.ensures.told.1 ∙ (c.write_waiting.ensures.told.1 ∙ kept.1.1.1.1)),
          ),
        ),
      ),
    )
