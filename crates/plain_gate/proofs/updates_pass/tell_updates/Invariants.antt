use Rattle.std.proofs.Common.{◌≡◌, fold, length}
use Rattle.gateway_state.specs.Updates.{update_told, updates_told}
use Rattle.plain_gate.proofs.updates_pass.tell_updates.Given as goal

-- giving the notices that are left leads from here to where giving all leads
abbrev pub invariant-loop-notice : goal.invariant-loop-notice
invariant-loop-notice l = fold update_told l.rows l.notices.items ≡ updates_told l.fn.rows

abbrev pub decreases-loop-notice : goal.decreases-loop-notice
decreases-loop-notice l = length l.notices.items
