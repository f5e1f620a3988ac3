-- The law is that of the definitions.
use Rattle.serve_state.proofs.VigilLemmas.{by_silence}
use Rattle.serve_state.proofs.vigil.vigils_go_by_silence.Goals as goal

pub returns : goal.returns
returns c = by_silence
