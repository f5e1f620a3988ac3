use Rattle.std.proofs.Common.{◌≡◌, ◌++◌, drop}
use Rattle.std.specs.List.{flat_map}
use Rattle.gateway_state.specs.Notices.{link_notices_of, link_notices}
use Rattle.plain_gate.proofs.links_pass.link_notices.Given as goal

-- the notices so far and those on the links that are left are all
abbrev pub invariant-loop-link : goal.invariant-loop-link
invariant-loop-link l =
    l.notices.items ++ flat_map (link_notices_of l.rows) (drop l.link-index l.link-items) ≡ link_notices l.rows
