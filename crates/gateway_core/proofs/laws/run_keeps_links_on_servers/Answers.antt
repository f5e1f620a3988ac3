use Rattle.gateway_state.proofs.LinksOnServers.{run_links_on_servers}
use Rattle.gateway_core.proofs.laws.run_keeps_links_on_servers.Goals as goal

pub returns : goal.returns
returns c config policy events = run_links_on_servers config policy events
