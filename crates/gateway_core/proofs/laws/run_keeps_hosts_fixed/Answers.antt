use Rattle.gateway_state.proofs.HostsFixed.{run_hosts_fixed}
use Rattle.gateway_core.proofs.laws.run_keeps_hosts_fixed.Goals as goal

pub returns : goal.returns
returns c config policy events = run_hosts_fixed config policy events
