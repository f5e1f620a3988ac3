use Rattle.std.proofs.Common.{◌≡◌, ◌++◌, map}
use Rattle.std.specs.List.{flat_map}
use Rattle.gateway_state.specs.Notices.{link_notices_of}
use Rattle.touched_rows.specs.Touched.{link_notices_among}
use Rattle.consequences.proofs.links.link_notices_among.Given as goal

-- the notices so far and those on the links that are left are all
abbrev pub invariant-loop-link : goal.invariant-loop-link
invariant-loop-link l =
    l.notices.items ++ flat_map (link_notices_of l.known.state) (map (λ row. row.now) l.link-iterator.rest.items) ≡ link_notices_among l.names l.known.state
