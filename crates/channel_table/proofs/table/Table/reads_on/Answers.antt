use Rattle.std.proofs.Common.{length, ap, ◌∙◌}
use Rattle.std.specs.List.{filter}
use Rattle.channel_table.specs.ClientRows.{is_read_for}
use Rattle.channel_table.specs.Looks.{BrandedRows}
use Rattle.named_rows.proofs.Waiting.{count_waiting}
use Rattle.channel_table.proofs.table.Table.reads_on.Goals as goal

pub returns : goal.returns
returns c =
    c.count_on.ensures ∙ count_waiting c.self.inside.channels c.self.inside.reads c.args.name.now c.self.invariant.reads_follow
    ∙ ap (λ (t : BrandedRows). length (filter (is_read_for t.rows c.args.name.now) t.rows.reads)) c.self.view_is
