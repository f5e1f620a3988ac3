use Rattle.std.proofs.Common.{◌≡◌, drop}
use Rattle.state_tables.specs.Kept.{all_aged}
use Rattle.state_tables.proofs.search_table.SearchTable.age.Given as goal

-- what is left to be done leads to the same
abbrev pub invariant-loop-key : goal.invariant-loop-key
invariant-loop-key l = all_aged (drop l.key-index l.keys) l.self ≡ all_aged l.keys l.fn.self
