use Rattle.std.proofs.Common.{◌≡◌, fold, length}
use Rattle.gateway_state.specs.Notices.{read_told}
use Rattle.consequences.proofs.reads.tell_each.Given as goal

-- giving the notices that are left leads from here to where giving all leads
abbrev pub invariant-loop-notice : goal.invariant-loop-notice
invariant-loop-notice l =
    (fold read_told l.known.state l.notices.items ≡ fold read_told l.fn.known.state l.fn.notices.items)
    × (l.known.brand ≡ l.fn.known.brand)

abbrev pub decreases-loop-notice : goal.decreases-loop-notice
decreases-loop-notice l = length l.notices.items
