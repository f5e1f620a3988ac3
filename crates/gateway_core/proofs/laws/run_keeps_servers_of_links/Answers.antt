use Rattle.gateway_state.proofs.ServersOfLinks.{run_servers_of_links}
use Rattle.gateway_core.proofs.laws.run_keeps_servers_of_links.Goals as goal

pub returns : goal.returns
returns c config policy events = run_servers_of_links config policy events
