use Rattle.gateway_state.proofs.SettledRuns.{run_settled}
use Rattle.gateway_core.proofs.laws.run_is_settled.Goals as goal

pub returns : goal.returns
returns c config policy events = run_settled config policy events
