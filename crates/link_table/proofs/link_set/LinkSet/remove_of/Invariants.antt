use Rattle.std.proofs.Common.{◌≡◌, length}
use Rattle.std.specs.List.{filter}
use Rattle.link_table.specs.Links.{is_not_of}
use Rattle.link_table.proofs.link_set.LinkSet.remove_of.Given as goal

-- the links of others are as they were
abbrev pub invariant-loop-cid : goal.invariant-loop-cid
invariant-loop-cid l = filter (is_not_of l.server) l.self ≡ filter (is_not_of l.server) l.fn.self

abbrev pub decreases-loop-cid : goal.decreases-loop-cid
decreases-loop-cid l = length l.self
