use Rattle.std.proofs.Common.{◌≡◌, ◌++◌, drop}
use Rattle.std.specs.Prelude.{filter_map}
use Rattle.row_index.specs.Slots.{place_in}
use Rattle.row_index.proofs.slots.places_of.Given as goal

-- the places that were found, and those to come, are all
abbrev pub invariant-loop-key : goal.invariant-loop-key
invariant-loop-key g l = l.found.items ++ filter_map (place_in l.slots) (drop l.key-index l.keys) ≡ filter_map (place_in l.slots) l.keys
