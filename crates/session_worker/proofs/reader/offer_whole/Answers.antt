use Rattle.std.proofs.Common.{◌∙◌, List, Ok, Option, subst, sym, arith}
use Rattle.ca_header.specs.Intake.{IsTake}
use Rattle.ca_header.specs.Reading.{front_at}
use Rattle.ca_header.specs.declared.header.Message.{Message}
use Rattle.board_rings.specs.declared.inbound.Inbound.{Inbound}
use Rattle.session_worker.proofs.Hearing.{taken_is_offered}
use Rattle.session_worker.specs.Serving.{Offers}
use Rattle.session_worker.proofs.reader.offer_whole.Goals as goal

-- the message that was taken was offered
pub loop-preserved : goal.loop-preserved
loop-preserved g c =
    let kept = c.loop.invariant.1 in
    let put = c.if-not-hand_over.ensures.some search in
    let more =
    taken_is_offered c.args.intake.now c.loop.intake c.take.new.self c.args.inlet.now.offered c.loop.inlet.offered c.hand_over.new.inlet.offered c.in-Ok-Some.message kept.1.0 kept.0
    (subst (λ (found : Option Message). IsTake c.loop.intake (front_at c.loop.intake) (Ok found) c.take.new.self) c.in-Ok-Some.field-0-is c.in-Ok-Some.ensures) put in
    let offers : Offers c.args.intake.now c.take.new.self c.args.inlet.now.offered c.clear_behind.new.inlet.offered =
    subst (λ (xs : List Inbound). Offers c.args.intake.now c.take.new.self c.args.inlet.now.offered xs) (sym c.clear_behind.ensures.offered) more.offers in
    ((tt, tt), (offers, (more.fits, (c.clear_behind.ensures.ring ∙ c.hand_over.ensures.ring ∙ kept.1.1.0, omega (arith, c.clear_behind.ensures.told, c.hand_over.ensures.told, kept.1.1.1)))))

-- it was offered, and then the gate stopped
pub returns-then-not-clear_behind-clause-offered : goal.returns-then-not-clear_behind-clause-offered
returns-then-not-clear_behind-clause-offered g c =
    let kept = c.loop.invariant.1 in
    let put = c.if-not-hand_over.ensures.some search in
    let more =
    taken_is_offered c.args.intake.now c.loop.intake c.take.new.self c.args.inlet.now.offered c.loop.inlet.offered c.hand_over.new.inlet.offered c.in-Ok-Some.message kept.1.0 kept.0
    (subst (λ (found : Option Message). IsTake c.loop.intake (front_at c.loop.intake) (Ok found) c.take.new.self) c.in-Ok-Some.field-0-is c.in-Ok-Some.ensures) put in
    let offers : Offers c.args.intake.now c.take.new.self c.args.inlet.now.offered c.clear_behind.new.inlet.offered =
    subst (λ (xs : List Inbound). Offers c.args.intake.now c.take.new.self c.args.inlet.now.offered xs) (sym c.clear_behind.ensures.offered) more.offers in
    let stopped = c.if-not-clear_behind.ensures.stopped search in
    (c.take.new.self, (offers, omega (arith, stopped, c.hand_over.ensures.told, kept.1.1.1)))
