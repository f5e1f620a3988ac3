use Rattle.std.proofs.Common.{◌≡◌, fold, drop}
use Rattle.gateway_state.specs.Notices.{link_told}
use Rattle.plain_gate.proofs.links_pass.tell_each.Given as goal

-- giving the notices that are left leads from here to where giving all leads
abbrev pub invariant-loop-notice : goal.invariant-loop-notice
invariant-loop-notice l = fold link_told l.rows (drop l.notice-index l.notices) ≡ fold link_told l.fn.rows l.notices
