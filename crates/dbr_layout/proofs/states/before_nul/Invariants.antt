use Rattle.std.proofs.Common.{◌≡◌, ◌-◌, ◌≤◌, ◌++◌, length, take, drop}
use Rattle.dbr_layout.specs.States.{before_nul}
use Rattle.dbr_layout.proofs.states.before_nul.Given as goal

-- no NUL is among the bytes so far
abbrev pub invariant-loop-end : goal.invariant-loop-end
invariant-loop-end l = record {
  in_range : l.end ≤ length l.bytes;
  same : before_nul l.bytes ≡ take l.end l.bytes ++ before_nul (drop l.end l.bytes);
}

abbrev pub decreases-loop-end : goal.decreases-loop-end
decreases-loop-end l = length l.bytes - l.end
