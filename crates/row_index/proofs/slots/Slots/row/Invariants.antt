use Rattle.std.proofs.Common.{◌≡◌, map, drop, slice_get}
use Rattle.row_index.specs.Rows.{row_of}
use Rattle.row_index.specs.Slots.{filled}
use Rattle.row_index.proofs.slots.Slots.row.Given as goal

-- what is left decides
abbrev pub invariant-loop-slot : goal.invariant-loop-slot
invariant-loop-slot g l = slice_get (map row_of (filled (drop l.slot-index l.slot-items))) l.left ≡ slice_get (map row_of (filled l.slot-items)) l.n
