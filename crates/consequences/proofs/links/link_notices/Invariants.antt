use Rattle.std.proofs.Common.{◌≡◌, ◌++◌, map}
use Rattle.std.specs.List.{flat_map}
use Rattle.gateway_state.specs.Notices.{link_notices_of, link_notices}
use Rattle.consequences.proofs.links.link_notices.Given as goal

-- the notices so far and those on the links that are left are all
abbrev pub invariant-loop-link : goal.invariant-loop-link
invariant-loop-link l =
    l.notices.items ++ flat_map (link_notices_of l.known.state) (map (λ row. row.now) l.link-iterator.rest.items) ≡ link_notices l.known.state
