use Rattle.std.proofs.Common.{◌≡◌, ◌++◌, drop}
use Rattle.pv_alias.proofs.resolver.untried.Given as goal

-- what is left completes them
abbrev pub invariant-loop-row : goal.invariant-loop-row
invariant-loop-row l = l.all.items ++ drop l.row-index l.rows ≡ l.rows
