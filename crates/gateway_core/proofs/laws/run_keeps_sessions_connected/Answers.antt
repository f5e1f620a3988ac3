use Rattle.gateway_state.proofs.SessionsConnected.{run_sessions_connected}
use Rattle.gateway_core.proofs.laws.run_keeps_sessions_connected.Goals as goal

pub returns : goal.returns
returns c config policy events = run_sessions_connected config policy events
