use Rattle.std.proofs.lemmas.Result.{on_ok_weaker}
use Rattle.replay_text.specs.Output.{shut_line}
use Rattle.replay.specs.Player.{playing}
use Rattle.replay.proofs.PlayerLemmas.{Performs-cut_off}
use Rattle.replay.proofs.player.Player.shut.Goals as goal

pub returns : goal.returns
returns g c =
    let known = playing g.G.GatewayCalls.state in
    let held = g.W.Write.contents in
    on_ok_weaker c.print_waiting.result
    (λ printed.
    rw c.in-Some.is
    (Performs-cut_off (shut_line c.in-Some.field-0.dest c.in-Some.field-0.fault) c.in-Some.field-0.dest (known c.args.self.now) (known c.lose.new.self) (known c.print_waiting.new.self)
    (held c.args.out.now) (held c.write_shut.new.out) (held c.print_waiting.new.out)
    c.in_ok-write_shut.ensures.ok c.in_ok-lose.ensures.lost printed))
    c.print_waiting.ensures
