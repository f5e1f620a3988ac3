use Rattle.std.proofs.Common.{◌≡◌, ◌+◌, ◌≤◌, length, string_bytes}
use Rattle.pvlist.specs.Captures.{groups_outside}
use Rattle.pvlist.specs.Translation.{followed, outside}
use Rattle.pvlist.proofs.translation.put_pattern.Given as goal

-- what is left completes the text and the count
abbrev pub invariant-loop-rest : goal.invariant-loop-rest
invariant-loop-rest l = record {
  text : followed (string_bytes l.initial.text) (outside l.syntax l.pattern) ≡ followed (string_bytes l.text) (outside l.syntax l.rest);
  count : l.groups + groups_outside l.syntax l.rest ≡ groups_outside l.syntax l.pattern;
  few : l.groups + length l.rest ≤ length l.pattern;
}

abbrev pub decreases-loop-rest : goal.decreases-loop-rest
decreases-loop-rest l = length l.rest
