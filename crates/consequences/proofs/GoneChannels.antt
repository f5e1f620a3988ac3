-- A channel is gone with its link.
use Rattle.std.proofs.Common.{◌≡◌, Bool, true, false, eqb, ◌&&◌, Some, refl, ap, ◌∙◌}
use Rattle.named_rows.specs.declared.channels.Channel.{Channel}
use Rattle.gateway_state.specs.declared.notice.ChannelNotice.TheVariants.{Disconnected}
use Rattle.gateway_state.specs.Gateway.{Gateway}
use Rattle.gateway_state.specs.Notices.{channel_notice}
use Rattle.gateway_state.specs.Resolution.{is_real}
use Rattle.gateway_state.specs.Rights.{lead_in, link_connected, rights_of}
use Rattle.gateway_state.specs.Variables.{link_of}
use Rattle.gateway_state.proofs.SettledChannels.{notice_by}

-- whatever the rules say
pub gone_with_link : (w : Gateway) (c : Channel) → link_connected (link_of w c.real) ≡ false → channel_notice w c ≡ Some (Disconnected c.session c.sid c.cid)
gone_with_link w c gone =
    ap (λ (connected : Bool). notice_by (is_real (lead_in w c.session c.asked) c.real && connected) (eqb c.rights_told (rights_of w c)) (rights_of w c) c) gone
    ∙ ap (λ (served : Bool). notice_by served (eqb c.rights_told (rights_of w c)) (rights_of w c) c) (and_false (is_real (lead_in w c.session c.asked) c.real))
  where
    and_false : (t : Bool) → (t && false) ≡ false
    and_false true = refl
    and_false false = refl
