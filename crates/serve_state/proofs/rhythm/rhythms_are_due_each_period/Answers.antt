-- The law is that of the definitions.
use Rattle.serve_state.proofs.RhythmLemmas.{due_each_period}
use Rattle.serve_state.proofs.rhythm.rhythms_are_due_each_period.Goals as goal

pub returns : goal.returns
returns c = due_each_period
