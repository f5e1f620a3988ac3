use Rattle.std.proofs.Common.{◌≡◌, length, take}
use Rattle.std.specs.Str.Lines.{lines}
use Rattle.pvlist.specs.RuleFile.{IsRulingOf}
use Rattle.pvlist.proofs.rules.Rules.read_as.Given as goal

-- the lines so far say what was taken up
abbrev pub invariant-loop-line : goal.invariant-loop-line
invariant-loop-line l = record {
  says : IsRulingOf l.syntax (take (length l.yielded) (lines l.text)) l.rules;
  count : l.number ≡ length l.yielded;
}
