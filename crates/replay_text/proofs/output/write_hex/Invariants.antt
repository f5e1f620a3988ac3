use Rattle.std.proofs.Common.{ℕ, List, Option, length}
use Rattle.std.specs.Io.KnownBytes.{Appends}
use Rattle.hex.specs.Hex.{encode_lower}
use Rattle.replay_text.proofs.output.write_hex.Given as goal

-- what writes the rest completes the text of all bytes
abbrev pub invariant-loop-rest : goal.invariant-loop-rest
invariant-loop-rest g l =
    (written : Option (List ℕ))
    → Appends (g.W.Write.contents l.out) written (encode_lower l.rest)
    → Appends (g.W.Write.contents l.initial.out) written (encode_lower l.bytes)

abbrev pub decreases-loop-rest : goal.decreases-loop-rest
decreases-loop-rest g l = length l.rest
