-- The law is that of the definitions.
use Rattle.serve_state.proofs.InAllLemmas.{fewest}
use Rattle.serve_state.proofs.in_all.as_few_go_as_will_do.Goals as goal

pub returns : goal.returns
returns c = fewest
