use Rattle.std.proofs.lemmas.Result.{on_ok_weaker}
use Rattle.replay.specs.Player.{playing}
use Rattle.replay.proofs.PlayerLemmas.{Performs-line}
use Rattle.replay.proofs.player.Player.play.Goals as goal

pub returns : goal.returns
returns g c =
    let known = playing g.G.GatewayCalls.state in
    let held = g.W.Write.contents in
    on_ok_weaker c.end_marked.result
    (Performs-line c.args.entry c.in_ok-misframed.misframed (known c.args.self.now) (known c.take.new.self) (known c.print_waiting.new.self) (known c.shut.new.self)
    (known c.end_marked.new.self) (held c.args.out.now) (held c.take.new.out) (held c.print_waiting.new.out) (held c.shut.new.out) (held c.end_marked.new.out)
    c.in_ok-misframed.ensures c.in_ok-print_waiting.ensures c.in_ok-shut.ensures)
    c.end_marked.ensures
