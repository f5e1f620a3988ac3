use Rattle.gateway_state.proofs.NumbersApart.{run_numbers_apart}
use Rattle.gateway_core.proofs.laws.run_keeps_numbers_apart.Goals as goal

pub returns : goal.returns
returns c config policy events = run_numbers_apart config policy events
