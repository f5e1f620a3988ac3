use Rattle.std.proofs.Common.{◌≡◌, length}
use Rattle.pvlist.specs.Clues.{stands_in}
use Rattle.pvlist.proofs.clues.stands_in.Given as goal

-- what is left decides
abbrev pub invariant-loop-rest : goal.invariant-loop-rest
invariant-loop-rest l = stands_in l.rest l.text ≡ stands_in l.name l.text

abbrev pub decreases-loop-rest : goal.decreases-loop-rest
decreases-loop-rest l = length l.rest
