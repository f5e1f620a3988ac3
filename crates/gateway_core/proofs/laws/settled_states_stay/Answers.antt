use Rattle.gateway_state.proofs.SettledSteps.{settled_stays}
use Rattle.gateway_core.proofs.laws.settled_states_stay.Goals as goal

pub returns : goal.returns
returns c w settled = settled_stays w settled
