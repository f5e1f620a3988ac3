use Rattle.std.proofs.Common.{bytes_eq, ap, ◌∙◌}
use Rattle.std.specs.List.{filter}
use Rattle.channel_table.specs.ClientRows.{is_sub_to}
use Rattle.named_rows.specs.Indexes.{sub_key, is_to}
use Rattle.channel_table.specs.Looks.{BrandedRows}
use Rattle.named_rows.proofs.Listed.{rows_listed}
use Rattle.channel_table.proofs.table.Table.subs_to.Goals as goal

-- the keys of the name are those of the subscriptions to it
pub returns-clause-found : goal.returns-clause-found
returns-clause-found c =
    c.in_ok-subs.ensures.listed
    ∙ rows_listed bytes_eq sub_key (is_to c.self.inside.channels) c.self.inside.subs.rows c.self.inside.subs.on c.args.name.now c.are_apart.ensures c.self.invariant.subs_follow.listed
    ∙ ap (λ (t : BrandedRows). filter (is_sub_to t.rows c.args.name.now) t.rows.subs) c.self.view_is
