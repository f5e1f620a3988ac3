use Rattle.gateway_state.proofs.WritesOnLinks.{run_writes_on_links}
use Rattle.gateway_core.proofs.laws.run_keeps_writes_on_links.Goals as goal

pub returns : goal.returns
returns c config policy events = run_writes_on_links config policy events
