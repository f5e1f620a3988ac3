use Rattle.std.proofs.Common.{◌≡◌, ◌++◌, ◌&&◌, filter, drop}
use Rattle.named_rows.specs.declared.reads.WaitingRead.{WaitingRead}
use Rattle.gateway_state.specs.Servers.{fails_without, waits_for}
use Rattle.plain_gate.proofs.update.reads_without.Given as goal

-- those found so far and those among the reads that are left are all
abbrev pub invariant-loop-read : goal.invariant-loop-read
invariant-loop-read l =
    l.reads.items ++ filter (λ (read : WaitingRead). waits_for l.rows l.name read && fails_without l.subject l.native read) (drop l.read-index l.read-items) ≡ filter (λ (read : WaitingRead). waits_for l.rows l.name read && fails_without l.subject l.native read) l.rows.clients.reads
