use Rattle.std.proofs.Common.{◌≡◌, ℕ, ◌<◌, false, [], get_or, length}
use Rattle.std.specs.Str.Lines.{lines}
use Rattle.pvlist.specs.BareGroups.{is_bare_row}
use Rattle.pvlist.specs.Words.{words}
use Rattle.pvlist.proofs.bare_groups.first_bare_group.Given as goal

-- none of the lines so far is such a row
abbrev pub invariant-loop-line : goal.invariant-loop-line
invariant-loop-line l = record {
  before : (k : ℕ) → k < length l.yielded → is_bare_row (words (get_or (lines l.text) k [])) ≡ false;
  count : l.number ≡ length l.yielded;
}
