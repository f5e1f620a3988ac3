use Rattle.std.proofs.Common.{◌≡◌, fold, drop}
use Rattle.gateway_rows.specs.LinkIds.{without_link_of}
use Rattle.gateway_rows.proofs.state.Known.remove_links.Given as goal

-- removing those that are left leads from here to where removing all leads
abbrev pub invariant-loop-id : goal.invariant-loop-id
invariant-loop-id l =
    (fold without_link_of l.self.state (drop l.id-index l.ids) ≡ fold without_link_of l.fn.self.state l.ids)
    × (l.self.brand ≡ l.fn.self.brand)
