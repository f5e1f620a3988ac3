use Rattle.gateway_state.proofs.SettledRuns.{run_up_to_date}
use Rattle.gateway_core.proofs.laws.run_leaves_channels_up_to_date.Goals as goal

pub returns : goal.returns
returns c config policy events = run_up_to_date config policy events
