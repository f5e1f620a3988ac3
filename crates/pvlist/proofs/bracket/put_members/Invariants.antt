use Rattle.std.proofs.Common.{◌≡◌, ◌++◌, length, string_bytes}
use Rattle.pvlist.specs.Translation.{members}
use Rattle.pvlist.proofs.bracket.put_members.Given as goal

-- what is left completes the text
abbrev pub invariant-loop-rest : goal.invariant-loop-rest
invariant-loop-rest l = string_bytes l.initial.text ++ members l.inside ≡ string_bytes l.text ++ members l.rest

abbrev pub decreases-loop-rest : goal.decreases-loop-rest
decreases-loop-rest l = length l.rest
