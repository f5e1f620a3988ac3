use Rattle.std.proofs.Common.{◌≡◌, ◌++◌, drop}
use Rattle.std.specs.List.{flat_map}
use Rattle.row_index.specs.Lists.{of}
use Rattle.named_rows.proofs.named_rows.NamedRows.keys_on_each.Given as goal

-- those taken so far and those that are left are all
abbrev pub invariant-loop-name : goal.invariant-loop-name
invariant-loop-name g l = l.keys.items ++ flat_map (of l.self.on) (drop l.name-index l.names) ≡ flat_map (of l.self.on) l.names
