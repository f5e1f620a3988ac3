use Rattle.std.proofs.Common.{◌≡◌, map, ap, ◌∙◌}
use Rattle.std.specs.List.{filter}
use Rattle.std.proofs.lemmas.Result.{IfOk-weaker}
use Rattle.named_rows.specs.Channels.{is_on_any}
use Rattle.channel_table.specs.Looks.{BrandedRows}
use Rattle.channel_table.proofs.table.Table.channels_on_any.Goals as goal

pub on_any-requires : goal.on_any-requires
on_any-requires c = record { theirs = c.deref.ensures.value ∙ c.in_ok-keys.ensures.keys }

pub returns-clause-found : goal.returns-clause-found
returns-clause-found c =
    IfOk-weaker c.on_any.result
    (λ found. map (λ row. row.now) found.items ≡ filter (is_on_any c.args.names.now) c.self.inside.channels)
    (λ found. map (λ row. row.now) found.items ≡ filter (is_on_any c.args.names.now) c.args.self.now.rows.channels)
    (λ found is. is ∙ ap (λ (t : BrandedRows). filter (is_on_any c.args.names.now) t.rows.channels) c.self.view_is)
    c.on_any.ensures
