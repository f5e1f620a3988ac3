use Rattle.std.proofs.Common.{◌≡◌, length}
use Rattle.pvlist.specs.RealText.{is_real_text}
use Rattle.pvlist.proofs.real_text.is_real_text.Given as goal

-- what is left decides
abbrev pub invariant-loop-rest : goal.invariant-loop-rest
invariant-loop-rest l = is_real_text l.groups l.text ≡ is_real_text l.groups l.rest

abbrev pub decreases-loop-rest : goal.decreases-loop-rest
decreases-loop-rest l = length l.rest
