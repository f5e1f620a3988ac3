use Rattle.std.proofs.Common.{ℕ, List, Option, drop}
use Rattle.std.specs.Prelude.{flat_map}
use Rattle.std.specs.Io.KnownBytes.{Appends}
use Rattle.replay_text.specs.Output.{after_blank}
use Rattle.replay_text.proofs.output.write_names.Given as goal

-- what writes the names that are left completes the text of all names
abbrev pub invariant-loop-name : goal.invariant-loop-name
invariant-loop-name g l =
    (written : Option (List ℕ))
    → Appends (g.W.Write.contents l.out) written (flat_map after_blank (drop l.name-index l.names))
    → Appends (g.W.Write.contents l.initial.out) written (flat_map after_blank l.names)
