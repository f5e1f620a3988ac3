use Rattle.std.proofs.Common.{◌≤◌, ◌+◌, ◌*◌}
use Rattle.indexmap.specs.IndexMap.{index_map_len}
use Rattle.row_index.proofs.name_hints.NameHints.note_all.Given as goal

-- noting a place takes no spot more
abbrev pub invariant-loop-place : goal.invariant-loop-place
invariant-loop-place g l = l.self ≤ 4 * index_map_len l.map + 16
