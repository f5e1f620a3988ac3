use Rattle.std.proofs.Common.{◌≤◌, ◌+◌, ◌*◌, length}
use Rattle.row_index.proofs.slots.note_all.Given as goal

-- noting a place takes no spot more
abbrev pub invariant-loop-place : goal.invariant-loop-place
invariant-loop-place g l = l.hints ≤ 4 * length l.slots + 16
