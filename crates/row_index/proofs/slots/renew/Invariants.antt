use Rattle.std.proofs.Common.{◌+◌, ◌≤◌, length, take}
use Rattle.indexmap.specs.IndexMap.{spare}
use Rattle.row_index.specs.Slots.{Agrees}
use Rattle.row_index.proofs.slots.renew.Given as goal

-- the places agree with the slots that are passed, and there is room for those to come
abbrev pub invariant-loop-place : goal.invariant-loop-place
invariant-loop-place g l = record { agree : Agrees (take l.place l.slots) l.places.entries; room : length l.slots ≤ spare l.places + l.place }
