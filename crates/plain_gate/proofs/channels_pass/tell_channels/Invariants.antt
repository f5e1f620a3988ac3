use Rattle.std.proofs.Common.{◌≡◌, fold, drop}
use Rattle.gateway_state.specs.Notices.{channel_told, channels_told}
use Rattle.plain_gate.proofs.channels_pass.tell_channels.Given as goal

-- giving the notices that are left leads from here to where giving all leads
abbrev pub invariant-loop-notice : goal.invariant-loop-notice
invariant-loop-notice l = fold channel_told l.rows (drop l.notice-index l.notice-items) ≡ channels_told l.fn.rows
