use Rattle.std.proofs.Common.{sym}
use Rattle.std.specs.List.{find}
use Rattle.rows.proofs.RowLemmas.{change_first_unfound}
use Rattle.row_index.specs.Rows.{has_key, row_of}
use Rattle.channel_table.specs.Sessions.{with_user}
use Rattle.named_rows.specs.Indexes.{changed_by}
use Rattle.named_rows.proofs.Keyed.{put_is_change}
use Rattle.row_index.proofs.Keys.{unmapped}
use Rattle.channel_table.proofs.sessions.put_user.Goals as goal

-- what was written there is the row changed
pub returns-in-Some : goal.returns-in-Some
returns-in-Some c = put_is_change c.args.key (with_user c.args.user) c.args.rows.now c.in-Some.row.now (sym c.in-Some.ensures.value)

pub returns-in_default : goal.returns-in_default
returns-in_default c =
    sym (change_first_unfound (has_key c.args.key) (changed_by (with_user c.args.user)) c.args.rows.now (unmapped row_of (find (has_key c.args.key) c.args.rows.now) (sym c.in_default.ensures.value)))
