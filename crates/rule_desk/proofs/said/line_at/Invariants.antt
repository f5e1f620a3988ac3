use Rattle.std.proofs.Common.{◌≡◌, ◌≤◌, length}
use Rattle.rule_desk.proofs.said.line_at.Given as goal

-- the lines so far were passed, and none of them is the one
abbrev pub invariant-loop-line : goal.invariant-loop-line
invariant-loop-line l = record {
  passed : l.passed ≡ length l.yielded;
  before : l.passed ≤ l.place;
}
