-- The law is that of the definitions.
use Rattle.serve_state.proofs.LimitLemmas.{told_once}
use Rattle.serve_state.proofs.limits.limits_are_told_once.Goals as goal

pub returns : goal.returns
returns c = told_once
