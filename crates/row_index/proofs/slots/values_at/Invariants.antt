use Rattle.std.proofs.Common.{◌≡◌, ◌++◌, map, drop}
use Rattle.std.specs.Prelude.{filter_map}
use Rattle.row_index.specs.Slots.{value_there}
use Rattle.row_index.proofs.slots.values_at.Given as goal

-- the rows that were found, and those to come, are all
abbrev pub invariant-loop-place : goal.invariant-loop-place
invariant-loop-place g l = map (λ row. row.now) l.values.items ++ filter_map (value_there l.slots) (drop l.place-index l.places) ≡ filter_map (value_there l.slots) l.places
