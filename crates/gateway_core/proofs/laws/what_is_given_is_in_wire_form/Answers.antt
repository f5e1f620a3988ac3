use Rattle.gateway_state.proofs.GivenMessages.{given_is_said}
use Rattle.gateway_core.proofs.laws.what_is_given_is_in_wire_form.Goals as goal

pub returns : goal.returns
returns c w event dest = given_is_said w event dest
