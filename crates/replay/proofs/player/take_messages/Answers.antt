use Rattle.std.proofs.Common.{[], ◌∷◌}
use Rattle.replay.specs.Played.{said}
use Rattle.replay.proofs.ReceivingLemmas.{AreTaken-fault, AreTaken-none, events-end, events-next}
use Rattle.replay.proofs.player.take_messages.Goals as goal

pub returns-in-Ok-None-clause-taken : goal.returns-in-Ok-None-clause-taken
returns-in-Ok-None-clause-taken c =
    let takes = rw c.in-Ok-None.field-0-is at c.in-Ok-None.ensures in
    let all = c.loop.invariant [] c.take.new.self (AreTaken-none c.loop.intake c.take.new.self takes) in
    (all.0, all.1, events-end all.0 (said c.args.dest) c.args.events.now.items c.loop.events.items c.loop.events.items all.2)

pub returns-in-Err-Faulted-clause-taken : goal.returns-in-Err-Faulted-clause-taken
returns-in-Err-Faulted-clause-taken c =
    let takes = rw c.in-Err-Faulted.field-0-is at c.in-Err-Faulted.ensures in
    let all = c.loop.invariant [] c.take.new.self (AreTaken-fault c.loop.intake c.take.new.self c.in-Err-Faulted.fault takes) in
    (all.0, all.1, events-end all.0 (said c.args.dest) c.args.events.now.items c.loop.events.items c.loop.events.items all.2)

pub loop-preserved : goal.loop-preserved
loop-preserved c = λ more left taken.
    let takes = rw c.in-Ok-Some.field-0-is at c.in-Ok-Some.ensures in
    let all = c.loop.invariant (c.in-Ok-Some.message ∷ more) left (c.take.new.self, takes, taken) in (
      all.0,
      all.1,
      events-next all.0 more c.in-Ok-Some.message (said c.args.dest) c.args.events.now.items c.loop.events.items c.push.new.self.items c.said_by.result
          c.in_ok-push-in-Ok-Some.ensures.items c.said_by.ensures all.2,
    )
