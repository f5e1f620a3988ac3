use Rattle.std.proofs.Common.{◌≡◌, ◌++◌, map, drop}
use Rattle.row_index.specs.Rows.{row_of}
use Rattle.row_index.specs.Slots.{filled}
use Rattle.row_index.proofs.slots.Slots.rows.Given as goal

-- the rows that are listed, and those to come, are all
abbrev pub invariant-loop-slot : goal.invariant-loop-slot
invariant-loop-slot g l = map (λ row. row.now) l.rows.items ++ map row_of (filled (drop l.slot-index l.slot-items)) ≡ map row_of (filled l.slot-items)
