use Rattle.std.proofs.Common.{◌≡◌, length}
use Rattle.std.specs.List.{filter}
use Rattle.link_table.specs.Writes.{is_not_write_of}
use Rattle.link_table.proofs.writes.Writes.remove_of.Given as goal

-- the other writes are as they were
abbrev pub invariant-loop-key : goal.invariant-loop-key
invariant-loop-key l = filter (is_not_write_of l.session) l.self ≡ filter (is_not_write_of l.session) l.fn.self

abbrev pub decreases-loop-key : goal.decreases-loop-key
decreases-loop-key l = length l.self
