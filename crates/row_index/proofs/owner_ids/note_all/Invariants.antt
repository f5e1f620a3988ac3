use Rattle.std.proofs.Common.{◌≤◌, ◌+◌, ◌*◌}
use Rattle.indexmap.specs.IndexMap.{index_map_len}
use Rattle.row_index.proofs.owner_ids.note_all.Given as goal

-- noting a place takes no spot more
abbrev pub invariant-loop-place : goal.invariant-loop-place
invariant-loop-place l = l.hints ≤ 4 * index_map_len l.lists + 16
