use Rattle.std.proofs.Common.{◌≡◌, length}
use Rattle.pvlist.specs.BareGroups.{has_bare_group}
use Rattle.pvlist.proofs.bare_groups.has_bare_group.Given as goal

-- what is left decides
abbrev pub invariant-loop-rest : goal.invariant-loop-rest
invariant-loop-rest l = has_bare_group l.pattern ≡ has_bare_group l.rest

abbrev pub decreases-loop-rest : goal.decreases-loop-rest
decreases-loop-rest l = length l.rest
