-- What a slot ends as, where a `&mut` to its value is returned.
use Rattle.std.specs.Prelude.{Option}
use Rattle.std.specs.Borrow.{LendsIf, Fml, RattleType, MutBor}
use Rattle.row_index.specs.contracts.slot.Slot.{the_row}
use Rattle.row_index.specs.declared.slot.Slot.{Slot}
use Rattle.row_index.specs.Slots.{with_value}

-- it has the last value written through r, and an empty slot stays so
abbrev pub lends_value_in : (V : RattleType) → MutBor (Slot V.Denot) → Option (MutBor V.Denot) → Fml
lends_value_in V s r = LendsIf (the_row V) V s r (with_value s.now) s.now
