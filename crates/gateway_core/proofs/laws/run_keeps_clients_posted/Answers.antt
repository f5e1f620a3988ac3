use Rattle.gateway_state.proofs.SettledRuns.{run_kept_posted}
use Rattle.gateway_core.proofs.laws.run_keeps_clients_posted.Goals as goal

pub returns : goal.returns
returns c config policy events = run_kept_posted config policy events
