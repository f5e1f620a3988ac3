use Rattle.std.proofs.Common.{◌≡◌, fold, drop}
use Rattle.gateway_state.specs.Subscribing.{unreadable_told}
use Rattle.consequences.proofs.channels.tell_unreadable.Given as goal

-- telling those that are left leads from here to where telling all leads
abbrev pub invariant-loop-sub : goal.invariant-loop-sub
invariant-loop-sub l =
    (fold unreadable_told l.known.state (drop l.sub-index l.subs) ≡ fold unreadable_told l.fn.known.state l.subs)
    × (l.known.brand ≡ l.fn.known.brand)
