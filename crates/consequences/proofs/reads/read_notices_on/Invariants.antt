use Rattle.std.proofs.Common.{◌≡◌, ◌+◌, ◌++◌, drop, length}
use Rattle.std.specs.List.{filter_map}
use Rattle.gateway_rows.specs.Looked.{OnlyLooked}
use Rattle.gateway_state.specs.Notices.{read_notice}
use Rattle.touched_rows.specs.Touched.{read_notices_on}
use Rattle.consequences.proofs.reads.read_notices_on.Given as goal

-- the notices so far and those on the reads that are left are all, with a look for each that was passed
abbrev pub invariant-loop-read : goal.invariant-loop-read
invariant-loop-read l =
    (l.notices.items ++ filter_map (read_notice l.fn.rows.state) (drop l.read-index l.read-items) ≡ read_notices_on l.name l.fn.rows.state)
    × OnlyLooked (length l.read-items + l.read-index) l.fn.rows l.rows
