-- The law is that of the definitions.
use Rattle.serve_state.proofs.VigilLemmas.{spared}
use Rattle.serve_state.proofs.vigil.vigils_spare_who_speaks.Goals as goal

pub returns : goal.returns
returns c = spared
