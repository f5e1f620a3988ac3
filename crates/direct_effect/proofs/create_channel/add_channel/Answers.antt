use Rattle.std.proofs.Common.{◌∙◌, ℕ, ap}
use Rattle.channel_table.specs.ClientRows.{has_channel}
use Rattle.gateway_rows.specs.BrandedState.{BrandedState}
use Rattle.gateway_state.specs.Clients.{next_sid}
use Rattle.gateway_state.specs.Gateway.{Gateway}
use Rattle.gateway_state.proofs.NewNumbers.{new_sid}
use Rattle.direct_effect.proofs.create_channel.add_channel.Goals as goal

-- no channel of the session has the next number, and giving it out leaves all channels
pub add_channel_within-requires : goal.add_channel_within-requires
add_channel_within-requires c =
    let w = c.args.known.now.state in
    let number = c.args.number in
    record {
      new =
          ap (λ (sid : ℕ). has_channel number sid c.known.inside.clients.rows) c.in-Some.ensures.found
          ∙ ap (λ (s : BrandedState). has_channel number (next_sid w number) s.state.clients) c.known.view_is
          ∙ ap (λ (v : Gateway). has_channel number (next_sid w number) v.clients) c.in-Some.ensures.given
          ∙ new_sid w number c.requires.order;
    }
