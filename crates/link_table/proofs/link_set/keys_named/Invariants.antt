use Rattle.std.proofs.Common.{◌≡◌, ◌++◌, drop}
use Rattle.std.specs.Prelude.{filter_map}
use Rattle.link_table.specs.LinkIndex.{first_of}
use Rattle.link_table.proofs.link_set.keys_named.Given as goal

-- the keys that were found, and those to come, are all
abbrev pub invariant-loop-name : goal.invariant-loop-name
invariant-loop-name l = l.keys.items ++ filter_map (first_of l.by_name) (drop l.name-index l.names) ≡ filter_map (first_of l.by_name) l.names
