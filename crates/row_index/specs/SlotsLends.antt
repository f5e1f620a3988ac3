-- What `Slots` end as, where a `&mut` to one of their values is returned.
use Rattle.std.specs.Prelude.{List, Option}
use Rattle.std.specs.Borrow.{LendsIf, Fml, RattleType, MutBor}
use Rattle.row_index.specs.declared.key.Key.{Key}
use Rattle.row_index.specs.contracts.slots.Slots.{the_row}
use Rattle.row_index.specs.Rows.{put_at}

-- as the words of `RowLends` say of a `RowMap`
abbrev pub lends_value : (V : RattleType) → MutBor (List (Key × V.Denot)) → Key → Option (MutBor V.Denot) → Fml
lends_value V s key r = LendsIf (the_row V) V s r (put_at key s.now) s.now
