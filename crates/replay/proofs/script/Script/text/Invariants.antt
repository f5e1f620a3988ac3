use Rattle.std.proofs.Common.{◌≡◌, ◌+◌}
use Rattle.std.specs.Io.KnownBytes.{Keeps}
use Rattle.replay.specs.Reading.{TakesText, lines_left}
use Rattle.replay.proofs.script.Script.text.Given as goal

-- the text so far is that of the lines that were taken
abbrev pub invariant-loop : goal.invariant-loop
invariant-loop g l = record {
  taken : TakesText (lines_left g.R.Read.remaining l.initial.self) l.counter (lines_left g.R.Read.remaining l.self) l.text.items;
  counted : l.self.number ≡ l.initial.self.number + l.counter;
  same : Keeps (g.W.Write.contents l.initial.writer) (g.W.Write.contents l.writer);
}
