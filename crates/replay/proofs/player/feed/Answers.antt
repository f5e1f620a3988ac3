use Rattle.std.proofs.Common.{ap}
use Rattle.std.specs.Prelude.{Err}
use Rattle.ca_header.specs.Reading.{front_at}
use Rattle.replay.proofs.ReceivingLemmas.{put_behind-fault, put_behind-fed}
use Rattle.replay.proofs.player.feed.Goals as goal

pub returns-in-Ok : goal.returns-in-Ok
returns-in-Ok c =
    put_behind-fed (front_at c.args.intake.now) c.args.intake.now c.args.bytes.now c.feed.new.self
    (λ fault is. let no = (c.in-Ok.ensures.faulted fault).1 is in absurd (cc)) c.in-Ok.ensures.ok

pub returns-in-Err-Faulted : goal.returns-in-Err-Faulted
returns-in-Err-Faulted c =
    put_behind-fault (front_at c.args.intake.now) c.in-Err-Faulted.field-0-0 c.args.intake.now c.args.bytes.now c.feed.new.self
    ((c.in-Err-Faulted.ensures.faulted c.in-Err-Faulted.field-0-0).0 (ap Err c.in-Err-Faulted.field-0-is)) c.in-Err-Faulted.ensures.err
