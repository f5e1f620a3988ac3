-- The law is that of the definitions.
use Rattle.serve_state.proofs.LimitLemmas.{silent_for}
use Rattle.serve_state.proofs.limits.told_limits_rest.Goals as goal

pub returns : goal.returns
returns c = silent_for
