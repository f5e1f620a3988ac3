-- What a `RowMap` ends as, where a `&mut` to one of its values is returned.
use Rattle.std.specs.Prelude.{List, Option}
use Rattle.std.specs.Borrow.{LendsIf, Fml, RattleType, MutBor}
use Rattle.row_index.specs.declared.key.Key.{Key}
use Rattle.row_index.specs.contracts.row_map.RowMap.{the_row}
use Rattle.row_index.specs.Rows.{put_at}

-- once the borrow r ends, the key has the last value written through r; at `None` the rows stay as
-- they are
abbrev pub lends_value : (V : RattleType) → MutBor (List (Key × V.Denot)) → Key → Option (MutBor V.Denot) → Fml
lends_value V s key r = LendsIf (the_row V) V s r (put_at key s.now) s.now
