-- The reads that fail are among those that wait for their variable.
use Rattle.std.proofs.Common.{◌≡◌, ℕ, List, Bool, ◌&&◌, sym}
use Rattle.std.specs.Prelude.{filter}
use Rattle.named_rows.specs.declared.reads.WaitingRead.{WaitingRead}
use Rattle.gateway_rows.proofs.Readers.{passing_both}
use Rattle.gateway_state.specs.Gateway.{Gateway}
use Rattle.gateway_state.specs.Servers.{waits_for}

pub failing_are_waiting : (w : Gateway) (name : List ℕ) (fails : WaitingRead → Bool) → filter fails (filter (waits_for w name) w.clients.reads) ≡ filter (λ read. waits_for w name read && fails read) w.clients.reads
failing_are_waiting w name fails = sym (passing_both fails (waits_for w name) w.clients.reads)
