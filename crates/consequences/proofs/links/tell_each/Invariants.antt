use Rattle.std.proofs.Common.{◌≡◌, fold, drop}
use Rattle.gateway_state.specs.Notices.{link_told}
use Rattle.gateway_state.specs.Settled.{AreNumbersApart}
use Rattle.consequences.proofs.links.tell_each.Given as goal

-- giving the notices that are left leads from here to where giving all leads
abbrev pub invariant-loop-notice : goal.invariant-loop-notice
invariant-loop-notice l = record {
  order : AreNumbersApart l.known.state;
  rest : fold link_told l.known.state (drop l.notice-index l.notices) ≡ fold link_told l.fn.known.state l.notices;
  brand : l.known.brand ≡ l.fn.known.brand;
}
