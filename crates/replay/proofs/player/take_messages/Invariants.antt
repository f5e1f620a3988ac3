use Rattle.std.proofs.Common.{◌≡◌, ℕ, List, ◌++◌}
use Rattle.std.specs.Prelude.{map}
use Rattle.ca_header.specs.declared.header.Message.{Message}
use Rattle.replay.specs.Played.{said}
use Rattle.replay.specs.Receiving.{AreTaken}
use Rattle.replay.proofs.player.take_messages.Given as goal

-- the messages so far, and those that are taken of what is left, are those that are taken of all
abbrev pub invariant-loop : goal.invariant-loop
invariant-loop l =
    (more : List Message) (left : List ℕ) → AreTaken l.intake more left
    → (messages : List Message) × AreTaken l.initial.intake messages left
    × (l.events.items ++ map (said l.dest) more ≡ l.initial.events.items ++ map (said l.dest) messages)
