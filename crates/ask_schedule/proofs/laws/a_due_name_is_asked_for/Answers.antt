use Rattle.ask_schedule.proofs.Gaps.{due_is_asked}
use Rattle.ask_schedule.proofs.laws.a_due_name_is_asked_for.Goals as goal

pub returns : goal.returns
returns c now most before after row due few = due_is_asked now most before after row due few
