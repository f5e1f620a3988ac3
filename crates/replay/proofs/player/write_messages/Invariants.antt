use Rattle.std.proofs.Common.{ℕ, List, Option, drop}
use Rattle.std.specs.Prelude.{flat_map}
use Rattle.std.specs.Io.KnownBytes.{Appends}
use Rattle.replay.specs.Played.{out_line}
use Rattle.replay.proofs.player.write_messages.Given as goal

-- what writes the lines that are left completes the lines of all messages
abbrev pub invariant-loop-message : goal.invariant-loop-message
invariant-loop-message g l =
    (written : Option (List ℕ))
    → Appends (g.W.Write.contents l.out) written (flat_map (out_line l.dest) (drop l.message-index l.messages))
    → Appends (g.W.Write.contents l.initial.out) written (flat_map (out_line l.dest) l.messages)
