use Rattle.std.proofs.Common.{slice_get, ap, ◌∙◌}
use Rattle.std.specs.List.{filter}
use Rattle.channel_table.specs.ClientRows.{is_read_for}
use Rattle.channel_table.specs.Looks.{BrandedRows}
use Rattle.named_rows.proofs.Waiting.{nth_waiting}
use Rattle.channel_table.proofs.table.Table.read_on.Goals as goal

-- the nth key of the name is the key of the nth read that waits for it
pub returns-clause-nth : goal.returns-clause-nth
returns-clause-nth c =
    c.nth_on.ensures ∙ nth_waiting c.self.inside.channels c.self.inside.reads c.args.name.now c.args.n c.are_apart.ensures c.self.invariant.reads_follow
    ∙ ap (λ (t : BrandedRows). slice_get (filter (is_read_for t.rows c.args.name.now) t.rows.reads) c.args.n) c.self.view_is
