use Rattle.std.proofs.Common.{◌≡◌, length}
use Rattle.pv_alias.specs.Resolution.{matching, deciding}
use Rattle.pv_alias.proofs.resolving.deciding.Given as goal

-- what is left decides
abbrev pub invariant-loop-row : goal.invariant-loop-row
invariant-loop-row l = deciding (matching l.rest l.name) ≡ deciding (matching l.rows l.name)

abbrev pub decreases-loop-row : goal.decreases-loop-row
decreases-loop-row l = length l.rest
