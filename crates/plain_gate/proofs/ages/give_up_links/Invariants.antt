use Rattle.std.proofs.Common.{◌≡◌, fold, drop}
use Rattle.gateway_state.specs.Aged.{link_given_up, links_given_up}
use Rattle.plain_gate.proofs.ages.give_up_links.Given as goal

-- giving up the links that are left leads from here to where giving up all leads
abbrev pub invariant-loop-link : goal.invariant-loop-link
invariant-loop-link l =
    fold link_given_up l.rows (drop l.link-index l.link-items) ≡ links_given_up l.fn.rows
