use Rattle.touched_rows.proofs.ToldAlone.{step_alone}
use Rattle.touched_rows.proofs.laws.steps_follow_what_is_touched.Goals as goal

pub returns : goal.returns
returns c w event reached = step_alone w event reached
