use Rattle.std.proofs.Common.{ap, ◌∙◌}
use Rattle.std.specs.List.{filter}
use Rattle.channel_table.specs.ClientRows.{is_read_for}
use Rattle.channel_table.specs.Looks.{BrandedRows}
use Rattle.named_rows.proofs.Waiting.{all_waiting}
use Rattle.channel_table.proofs.table.Table.reads_for.Goals as goal

-- the keys of the name are those of the reads that wait for it
pub returns-clause-found : goal.returns-clause-found
returns-clause-found c =
    c.in_ok-reads.ensures ∙ all_waiting c.self.inside.channels c.self.inside.reads c.args.name.now c.are_apart.ensures c.self.invariant.reads_follow
    ∙ ap (λ (t : BrandedRows). filter (is_read_for t.rows c.args.name.now) t.rows.reads) c.self.view_is
