use Rattle.gateway_state.proofs.SettledRuns.{run_waiting}
use Rattle.gateway_core.proofs.laws.run_leaves_reads_that_wait.Goals as goal

pub returns : goal.returns
returns c config policy events = run_waiting config policy events
