-- Where each channel has the rights that its client was last told.
use Rattle.std.proofs.Common.{◌≡◌, ℕ, [], Some, sym, subst, ◌∙◌}
use Rattle.std.proofs.lemmas.List.Elements.{All-weaker}
use Rattle.named_rows.specs.declared.channels.Channel.{Channel}
use Rattle.named_rows.specs.Channels.{is_channel}
use Rattle.gateway_state.specs.Gateway.{Gateway, initial}
use Rattle.gateway_state.specs.Notices.{channel_notices, channels_told, links_told, reads_told}
use Rattle.gateway_state.specs.Reached.{IsReached}
use Rattle.gateway_state.specs.Rights.{channel_of}
use Rattle.gateway_state.specs.Settled.{AreNumbersApart, IsUpToDate}
use Rattle.gateway_state.specs.Step.{run}
use Rattle.gateway_state.specs.Told.{KnowRights, KnowsRights}
use Rattle.gateway_state.specs.Updates.{updates_withheld}
use Rattle.gateway_state.proofs.NumbersKept.{numbers_before_links}
use Rattle.gateway_state.proofs.RowTests.{found_passes}
use Rattle.gateway_state.proofs.SettledChannels.{channels_settled}
use Rattle.gateway_state.proofs.SettledLinks.{links_passed}
use Rattle.gateway_state.proofs.SettledMeaning.{quiet_up_to_date}
use Rattle.gateway_state.proofs.SettledReads.{reads_keep_channels}
use Rattle.gateway_state.proofs.SettledRuns.{run_settled}
use Rattle.gateway_state.proofs.SettledSteps.{links_keep_channels}
use Rattle.gateway_state.proofs.SettledWithheld.{withheld_keeps_channels}

-- where no channel is owed a notice
pub quiet_told : (w : Gateway) → channel_notices w ≡ [] → KnowRights w
quiet_told w none = All-weaker (IsUpToDate w) (KnowsRights w) (λ (c : Channel) (up : IsUpToDate w c). up.rights) w.clients.channels (quiet_up_to_date w none)

-- in every state that a run reaches
pub reached_told : (w : Gateway) → IsReached w → KnowRights w
reached_told w reached =
    subst KnowRights (sym reached.by_run) (quiet_told (run (initial reached.config reached.policy) reached.events) (run_settled reached.config reached.policy reached.events).channels)

-- so has a channel that is found
pub found_told : (w : Gateway) (session sid : ℕ) (c : Channel) → KnowRights w → channel_of w session sid ≡ Some c → KnowsRights w c
found_told w session sid c told is = found_passes (KnowsRights w) (is_channel session sid) w.clients.channels c told is

-- once clients were told, in each of the later passes
module _ (w : Gateway) (order : AreNumbersApart w) where
  quiet_held_back : channel_notices (updates_withheld (channels_told w)) ≡ []
  quiet_held_back = withheld_keeps_channels (channels_told w) ∙ channels_settled w order.channels

  quiet_links : channel_notices (links_told (updates_withheld (channels_told w))) ≡ []
  quiet_links =
      links_keep_channels (updates_withheld (channels_told w)) (links_told (updates_withheld (channels_told w)))
      (links_passed (updates_withheld (channels_told w)) (numbers_before_links w order).links)
      ∙ quiet_held_back

  pub told_before_withheld : KnowRights (channels_told w)
  told_before_withheld = quiet_told (channels_told w) (channels_settled w order.channels)

  pub told_before_links : KnowRights (updates_withheld (channels_told w))
  told_before_links = quiet_told (updates_withheld (channels_told w)) quiet_held_back

  pub told_before_reads : KnowRights (links_told (updates_withheld (channels_told w)))
  told_before_reads = quiet_told (links_told (updates_withheld (channels_told w))) quiet_links

  pub told_before_updates : KnowRights (reads_told (links_told (updates_withheld (channels_told w))))
  told_before_updates =
      quiet_told (reads_told (links_told (updates_withheld (channels_told w))))
      (reads_keep_channels (links_told (updates_withheld (channels_told w))) ∙ quiet_links)
