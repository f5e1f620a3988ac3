use Rattle.std.proofs.Common.{◌≡◌, fold, drop}
use Rattle.std.specs.Prelude.{filter_map}
use Rattle.gateway_state.specs.Variables.{search_names, with_unlinked}
use Rattle.plain_rows.specs.SearchRows.{itself}
use Rattle.plain_rows.proofs.state.PlainRows.add_search_names.Given as goal

-- adding the names that are left leads from here to where adding all leads
abbrev pub invariant-loop-real : goal.invariant-loop-real
invariant-loop-real l =
    fold (with_unlinked l.self) l.names.items (filter_map itself (drop l.real-index l.real-items)) ≡ fold (with_unlinked l.self) l.fn.names.items (search_names l.self.policy l.self.searches)
