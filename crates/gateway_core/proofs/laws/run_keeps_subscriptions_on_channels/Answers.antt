use Rattle.gateway_state.proofs.RowsOnChannels.{run_on_channels}
use Rattle.gateway_core.proofs.laws.run_keeps_subscriptions_on_channels.Goals as goal

pub returns : goal.returns
returns c config policy events = (run_on_channels config policy events).subs
