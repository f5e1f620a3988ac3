use Rattle.std.proofs.Common.{◌≡◌, ◌++◌}
use Rattle.std.specs.Prelude.{filter}
use Rattle.gateway_state.specs.Variables.{is_unlinked, search_names}
use Rattle.gateway_rows.proofs.state.Known.unlinked_names.Given as goal

-- the names so far and those without a link that are left are all of them
abbrev pub invariant-loop-name : goal.invariant-loop-name
invariant-loop-name l =
    l.names.items ++ filter (is_unlinked l.self.state) l.name-iterator.rest.items
    ≡ filter (is_unlinked l.self.state) (search_names l.self.state.policy l.self.state.searches)
