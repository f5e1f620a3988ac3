use Rattle.std.proofs.Common.{codes}
use Rattle.std.proofs.lemmas.Result.{on_ok_weaker}
use Rattle.std.proofs.KnownBytes.{Appends-trans}
use Rattle.replay_text.specs.Output.{access_cause_line}
use Rattle.replay_text.proofs.output.write_refused_access.Goals as goal

pub returns : goal.returns
returns g c =
    let held = g.W.Write.contents in
    record {
      ok = on_ok_weaker _
          (Appends-trans (held c.args.out.now) (held c.write_all.new.self) (held c.write_access_cause.new.out)
          (codes "refused access ") (access_cause_line c.args.line c.args.cause) c.in_ok-write_all.ensures.bytes)
          c.write_access_cause.ensures.ok;
    }
