use Rattle.std.proofs.Common.{◌≡◌, length}
use Rattle.std.specs.List.{filter}
use Rattle.link_table.specs.Writes.{is_not_write_to}
use Rattle.link_table.proofs.writes.Writes.remove_to.Given as goal

-- the writes to others are as they were
abbrev pub invariant-loop-id : goal.invariant-loop-id
invariant-loop-id l = filter (is_not_write_to l.server) l.self ≡ filter (is_not_write_to l.server) l.fn.self

abbrev pub decreases-loop-id : goal.decreases-loop-id
decreases-loop-id l = length l.self
