use Rattle.std.proofs.Common.{◌≡◌, map, ap, ◌∙◌}
use Rattle.std.specs.Prelude.{filter}
use Rattle.std.proofs.lemmas.Result.{IfOk-weaker}
use Rattle.named_rows.specs.Channels.{is_on_any}
use Rattle.gateway_rows.specs.BrandedState.{BrandedState}
use Rattle.touched_rows.specs.Touched.{is_channel_among}
use Rattle.consequences.proofs.gone.channels_among.Goals as goal

-- the table's channels on these names
pub returns-clause-found : goal.returns-clause-found
returns-clause-found c =
    let names = c.args.names.now in
    let channels = c.known.inside.clients.rows.channels in
    IfOk-weaker c.channels_on_any.result
    (λ found. map (λ channel. channel.now) found.items ≡ filter (is_on_any c.as_slice.result.now) channels)
    (λ found. map (λ channel. channel.now) found.items ≡ filter (is_channel_among names) c.args.known.now.state.clients.channels)
    (λ found is.
    is ∙ ap (λ asked. filter (is_on_any asked) channels) c.as_slice.ensures
    ∙ ap (λ (s : BrandedState). filter (is_channel_among names) s.state.clients.channels) c.known.view_is)
    c.channels_on_any.ensures.found
