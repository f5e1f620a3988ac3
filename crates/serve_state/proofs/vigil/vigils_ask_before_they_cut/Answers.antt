-- The law is that of the definitions.
use Rattle.serve_state.proofs.VigilLemmas.{asked_first}
use Rattle.serve_state.proofs.vigil.vigils_ask_before_they_cut.Goals as goal

pub returns : goal.returns
returns c = asked_first
