use Rattle.std.proofs.Common.{sym}
use Rattle.std.specs.List.{find}
use Rattle.rows.proofs.RowLemmas.{change_first_unfound}
use Rattle.row_index.specs.Rows.{has_key, row_of}
use Rattle.named_rows.specs.Indexes.{changed_by}
use Rattle.named_rows.proofs.Keyed.{put_is_change}
use Rattle.row_index.proofs.Keys.{unmapped}
use Rattle.named_rows.proofs.named_rows.put.Goals as goal

-- what was written there is the row changed
pub returns-in-Some : goal.returns-in-Some
returns-in-Some g c =
    rw c.put.ensures (put_is_change c.args.key (g.T.Changing.changed c.args.change) c.args.rows.now c.in-Some.row.now (sym c.in-Some.ensures.value))

pub returns-in_default : goal.returns-in_default
returns-in_default g c =
    sym (change_first_unfound (has_key c.args.key) (changed_by (g.T.Changing.changed c.args.change)) c.args.rows.now (unmapped row_of (find (has_key c.args.key) c.args.rows.now) (sym c.in_default.ensures.value)))
