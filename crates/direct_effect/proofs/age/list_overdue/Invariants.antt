use Rattle.std.proofs.Common.{◌≡◌, ◌++◌, filter, map}
use Rattle.gateway_state.specs.Aged.{are_properties_overdue}
use Rattle.direct_effect.specs.Overdue.{overdue_of}
use Rattle.direct_effect.proofs.age.list_overdue.Given as goal

-- those so far and those that are left are all
abbrev pub invariant-loop-link : goal.invariant-loop-link
invariant-loop-link l =
    l.overdue.items ++ map overdue_of (filter (are_properties_overdue l.known.state) (map (λ row. row.now) l.link-iterator.rest.items))
    ≡ map overdue_of (filter (are_properties_overdue l.known.state) l.known.state.upstream.links)
