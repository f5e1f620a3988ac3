use Rattle.std.proofs.Common.{◌≡◌, fold, drop}
use Rattle.gateway_state.specs.Servers.{fails_without, read_failed, reads_failed}
use Rattle.plain_gate.proofs.update.fail_reads.Given as goal

-- failing the reads that are left leads from here to where failing all leads
abbrev pub invariant-loop-read : goal.invariant-loop-read
invariant-loop-read l =
    fold read_failed l.rows (drop l.read-index l.read-items) ≡ reads_failed (fails_without l.fn.subject l.fn.native) l.fn.rows l.name
