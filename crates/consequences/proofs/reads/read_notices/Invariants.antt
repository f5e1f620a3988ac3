use Rattle.std.proofs.Common.{◌≡◌, ◌++◌, drop}
use Rattle.std.specs.List.{filter_map}
use Rattle.gateway_rows.specs.Looked.{OnlyLookedOn}
use Rattle.gateway_state.specs.Notices.{read_notice, read_notices}
use Rattle.consequences.proofs.reads.read_notices.Given as goal

-- the notices so far and those on the reads that are left are all
abbrev pub invariant-loop-read : goal.invariant-loop-read
invariant-loop-read l =
    (l.notices.items ++ filter_map (read_notice l.fn.rows.state) (drop l.read-index l.read-items) ≡ read_notices l.fn.rows.state)
    × OnlyLookedOn l.fn.rows l.rows
