use Rattle.std.proofs.Common.{◌≡◌, ◌++◌, length}
use Rattle.pv_alias.specs.RealName.{captured, replaced}
use Rattle.pv_alias.proofs.real_name.replaced.Given as goal

-- what is left completes the bytes
abbrev pub invariant-loop-rest : goal.invariant-loop-rest
invariant-loop-rest l = l.bytes.items ++ replaced (captured l.groups) l.rest ≡ replaced (captured l.groups) l.text

abbrev pub decreases-loop-rest : goal.decreases-loop-rest
decreases-loop-rest l = length l.rest
