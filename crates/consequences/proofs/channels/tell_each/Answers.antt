use Rattle.std.proofs.Common.{arith, ◌∙◌}
use Rattle.gateway_state.specs.Notices.{channel_told}
use Rattle.consequences.proofs.NextNotice.{told_next}
use Rattle.consequences.proofs.RightsLooks.{looks_next}
use Rattle.consequences.proofs.channels.tell_each.Goals as goal

-- one more notice is given
pub loop-notice-preserved : goal.loop-notice-preserved
loop-notice-preserved c =
    let at = c.loop-notice in
    let told = c.in_ok-tell_channel.ensures in (
      told_next channel_told c.tell_channel.new.rows.state at.rows.state _ c.args.notices.now at.notice-index _ (omega (arith, c.loop-notice-test.true)) told.ok at.invariant.0,
      looks_next c.tell_channel.new.rows.state at.rows.state c.args.notices.now at.notice-index at.rows.count.looks c.tell_channel.new.rows.count.looks _ _ (omega (arith, c.loop-notice-test.true)) told.ok told.bound at.invariant.1,
      (told.looked.0 ∙ at.invariant.2.0, omega (arith, told.looked.1, at.invariant.2.1)),
    )
