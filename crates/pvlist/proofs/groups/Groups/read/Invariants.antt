use Rattle.std.proofs.Common.{◌≡◌, length, take}
use Rattle.std.specs.Str.Lines.{lines}
use Rattle.pvlist.specs.GroupFile.{AreGroupsOf}
use Rattle.pvlist.proofs.groups.Groups.read.Given as goal

-- the lines so far say what was taken up
abbrev pub invariant-loop-line : goal.invariant-loop-line
invariant-loop-line l = record {
  says : AreGroupsOf (take (length l.yielded) (lines l.text)) l.groups;
  count : l.number ≡ length l.yielded;
}
