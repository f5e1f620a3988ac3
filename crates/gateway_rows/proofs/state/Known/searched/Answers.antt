use Rattle.std.proofs.Common.{◌≡◌, ℕ, suc, ◌+◌, length, map, filter, ap, arith, ◌∙◌}
use Rattle.std.proofs.lemmas.List.{length-map}
use Rattle.std.proofs.lemmas.List.Sums.{length-filter}
use Rattle.named_rows.specs.Channels.{is_channel_of}
use Rattle.channel_table.specs.ClientRows.{has_channel}
use Rattle.link_table.specs.Counters.{first_free}
use Rattle.link_table.specs.Numbers.{fitting_one}
use Rattle.gateway_state.specs.Clients.{sid_of, sids_of}
use Rattle.gateway_rows.specs.BrandedState.{BrandedState}
use Rattle.gateway_rows.proofs.state.Known.searched.Goals as goal

-- one number more is looked at than the session has channels
pub returns : goal.returns
returns c =
    let inside = c.self.inside in
    let number = c.args.number in
    let own = is_channel_of number in
    let channels = inside.clients.rows.channels in
    let counted : c.channel_count.result + 1 ≡ suc (length (map sid_of (filter own channels))) =
    (let is = c.channel_count.ensures in let as_many = length-map (filter own channels) sid_of in let kept = length-filter own channels in omega (arith, is, as_many, kept)) in
    c.free_sid.ensures
    ∙ (λ i. fitting_one (first_free inside.limits.reuses_numbers inside.config.first (λ (sid : ℕ). has_channel number sid inside.clients.rows) (counted i) (c.next-next.ensures i)))
    ∙ ap (λ (s : BrandedState). fitting_one (first_free s.state.limits.reuses_numbers s.state.config.first (λ (sid : ℕ). has_channel number sid s.state.clients) (suc (length (sids_of number s.state))) s.state.upstream.counters.sid)) c.self.view_is
