use Rattle.gateway_state.proofs.LinksApart.{run_links_apart}
use Rattle.gateway_core.proofs.laws.run_links_names_once.Goals as goal

pub returns : goal.returns
returns c config policy events = run_links_apart config policy events
