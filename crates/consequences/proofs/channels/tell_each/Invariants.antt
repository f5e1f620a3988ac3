use Rattle.std.proofs.Common.{◌≡◌, ◌≤◌, ◌+◌, fold, drop}
use Rattle.gateway_rows.specs.Looked.{LookedOn}
use Rattle.gateway_state.specs.Notices.{channel_told}
use Rattle.consequences.specs.Looks.{notices_looks}
use Rattle.consequences.proofs.channels.tell_each.Given as goal

-- giving the notices that are left leads from here to where giving all leads, and looks at no more
abbrev pub invariant-loop-notice : goal.invariant-loop-notice
invariant-loop-notice l =
    (fold channel_told l.rows.state (drop l.notice-index l.notices) ≡ fold channel_told l.fn.rows.state l.notices)
    × (l.rows.count.looks + notices_looks l.rows.state (drop l.notice-index l.notices) ≤ l.fn.rows.count.looks + notices_looks l.fn.rows.state l.notices)
    × LookedOn l.fn.rows l.rows
