use Rattle.gateway_state.proofs.SettledRuns.{run_in_use}
use Rattle.gateway_core.proofs.laws.run_leaves_links_in_use.Goals as goal

pub returns : goal.returns
returns c config policy events = run_in_use config policy events
