use Rattle.replay_text.specs.Output.{end_line}
use Rattle.replay.specs.Player.{playing}
use Rattle.replay.proofs.PlayerLemmas.{Performs-cut_off, Performs-first_ended}
use Rattle.replay.proofs.player.Player.end_first.Goals as goal

pub returns : goal.returns
returns g c =
    let state = g.G.GatewayCalls.state in
    let known = playing state in
    let held = g.W.Write.contents in
    Performs-first_ended (state c.args.self.now.gate) c.args.self.now.intakes.entries c.args.self.now.held.keys c.in-Some.dest (known c.print_waiting.new.self)
    (held c.args.out.now) (held c.print_waiting.new.out) (rw c.in-Some.is at c.in_ok-dest.ensures.found)
    (Performs-cut_off (end_line c.in-Some.dest) c.in-Some.dest (known c.args.self.now) (known c.lose.new.self) (known c.print_waiting.new.self)
    (held c.args.out.now) (held c.write_end.new.out) (held c.print_waiting.new.out) c.in_ok-write_end.ensures.ok (rw c.in_ok-dest.ensures.same at c.in_ok-lose.ensures.lost) c.in_ok-print_waiting.ensures)
