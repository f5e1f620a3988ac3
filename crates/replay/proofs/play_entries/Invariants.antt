use Rattle.std.proofs.Common.{ℕ, ◌+◌, List, Option}
use Rattle.replay.specs.Performed.{PerformsLines}
use Rattle.replay.specs.Player.{Playing, playing}
use Rattle.replay.specs.Reading.{LeadsOn, lines_left}
use Rattle.replay.proofs.play_entries.Given as goal

-- what was read leads on to what is left, and what performs the lines that are left performs all
abbrev pub invariant-loop : goal.invariant-loop
invariant-loop g l = record {
  leads : LeadsOn (lines_left g.R.Read.remaining l.initial.script) (l.initial.script.number + 1)
      (lines_left g.R.Read.remaining l.script) (l.script.number + 1);
  played : (new : Option Playing) (after : Option (List ℕ))
      → PerformsLines (lines_left g.R.Read.remaining l.script) (playing g.G.GatewayCalls.state l.player) new (g.W.Write.contents l.writer) after
      → PerformsLines (lines_left g.R.Read.remaining l.initial.script) (playing g.G.GatewayCalls.state l.initial.player) new (g.W.Write.contents l.initial.writer) after;
}
