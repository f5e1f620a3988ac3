use Rattle.std.proofs.Common.{◌≡◌, fold, drop}
use Rattle.gateway_state.specs.Aged.{properties_given_up_on, properties_given_up}
use Rattle.plain_gate.proofs.ages.give_up_properties.Given as goal

-- giving up the links that are left leads from here to where giving up all leads
abbrev pub invariant-loop-link : goal.invariant-loop-link
invariant-loop-link l =
    fold properties_given_up_on l.rows (drop l.link-index l.link-items) ≡ properties_given_up l.fn.rows
