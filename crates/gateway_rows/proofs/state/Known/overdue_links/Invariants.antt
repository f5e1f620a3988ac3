use Rattle.std.proofs.Common.{◌≡◌, ◌++◌, filter, map}
use Rattle.gateway_rows.specs.LinkIds.{link_id}
use Rattle.gateway_state.specs.Aged.{is_link_overdue}
use Rattle.gateway_rows.proofs.state.Known.overdue_links.Given as goal

-- those so far and those that are left are all
abbrev pub invariant-loop-link : goal.invariant-loop-link
invariant-loop-link l =
    l.ids.items ++ map link_id (filter (is_link_overdue l.self.state) (map (λ row. row.now) l.link-iterator.rest.items))
    ≡ map link_id (filter (is_link_overdue l.self.state) l.self.state.upstream.links)
