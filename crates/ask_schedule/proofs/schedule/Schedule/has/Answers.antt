use Rattle.std.proofs.Common.{is_some, ap, ◌∙◌}
use Rattle.ask_schedule.proofs.Found.{due_is_some}
use Rattle.ask_schedule.proofs.schedule.Schedule.has.Goals as goal

pub returns : goal.returns
returns c = rw (← c.self.view_is) (c.contains_key.ensures ∙ ap is_some (c.self.invariant.1 c.args.name.now) ∙ due_is_some c.args.name.now c.self.inside.rows.items)
