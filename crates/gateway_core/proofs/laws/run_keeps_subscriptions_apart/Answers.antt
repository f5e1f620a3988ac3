use Rattle.gateway_state.proofs.SubsApart.{run_subs_apart}
use Rattle.gateway_core.proofs.laws.run_keeps_subscriptions_apart.Goals as goal

pub returns : goal.returns
returns c config policy events = run_subs_apart config policy events
