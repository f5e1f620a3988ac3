use Rattle.std.proofs.lemmas.Result.{on_ok_weaker}
use Rattle.replay_text.proofs.OutputLemmas.{Appends-message_line}
use Rattle.replay_text.proofs.output.write_message.Goals as goal

pub returns : goal.returns
returns g c =
    let held = g.W.Write.contents in
    record {
      ok = on_ok_weaker _
          (Appends-message_line c.args.dest c.args.head.now c.args.payload.now
          (held c.args.out.now) (held c.write_dest.new.out) (held c.write_all.new.self) (held c.write_hex.new.out) (held c.write_hex-2.new.out) (held c.write_all-2.new.self)
          c.in_ok-write_dest.ensures.ok c.in_ok-write_all.ensures.bytes c.in_ok-write_hex.ensures.ok c.in_ok-write_hex-2.ensures.ok)
          c.write_all-2.ensures.bytes;
    }
