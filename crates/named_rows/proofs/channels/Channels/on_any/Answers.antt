use Rattle.std.proofs.Common.{◌≡◌, map, sym, ap, ◌∙◌}
use Rattle.std.specs.List.{filter}
use Rattle.std.proofs.lemmas.Result.{IfOk-weaker}
use Rattle.named_rows.specs.Channels.{is_on_any}
use Rattle.named_rows.specs.Indexes.{channel_key, channel_keys_on, is_one_of}
use Rattle.named_rows.proofs.OnAny.{channels_on_any}
use Rattle.named_rows.proofs.channels.Channels.on_any.Goals as goal

-- the rows of the keys that the names have
pub returns : goal.returns
returns c =
    let names = c.args.names.now in
    let rows = c.self.inside.rows.rows in
    IfOk-weaker c.in_order.result
    (λ found. map (λ row. row.now) found.items ≡ filter (is_one_of channel_key c.args.keys.now) rows)
    (λ found. map (λ row. row.now) found.items ≡ filter (is_on_any names) c.args.self.now)
    (λ found is.
    is ∙ ap (λ keys. filter (is_one_of channel_key keys) rows) (c.requires.theirs ∙ ap (channel_keys_on names) (sym c.self.view_is))
    ∙ channels_on_any names rows c.are_apart.ensures
    ∙ ap (filter (is_on_any names)) c.self.view_is)
    c.in_order.ensures
