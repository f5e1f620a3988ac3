-- The law is that of the definitions.
use Rattle.serve_state.proofs.BudgetLemmas.{at_most_four}
use Rattle.serve_state.proofs.ask_rhythm.looks_have_four_datagrams.Goals as goal

pub returns : goal.returns
returns c = at_most_four
