use Rattle.std.proofs.Common.{◌≡◌, ◌++◌, drop}
use Rattle.std.specs.Prelude.{filter}
use Rattle.gateway_state.specs.Aged.{is_link_overdue}
use Rattle.plain_gate.proofs.ages.overdue_links.Given as goal

-- the links so far and those that are overdue of what is left are all
abbrev pub invariant-loop-link : goal.invariant-loop-link
invariant-loop-link l =
    l.links.items ++ filter (is_link_overdue l.rows) (drop l.link-index l.link-items) ≡ filter (is_link_overdue l.rows) l.rows.upstream.links
