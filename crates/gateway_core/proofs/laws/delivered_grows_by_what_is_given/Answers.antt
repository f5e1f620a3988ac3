use Rattle.gateway_state.specs.Gateway.{initial}
use Rattle.gateway_state.proofs.GivenMessages.{delivered_one_more}
use Rattle.gateway_core.proofs.laws.delivered_grows_by_what_is_given.Goals as goal

pub returns : goal.returns
returns c config policy events event dest other = delivered_one_more (initial config policy) events event dest other
