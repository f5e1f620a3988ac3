use Rattle.std.proofs.Common.{arith}
use Rattle.ask_schedule.proofs.Looks.{due_in_front}
use Rattle.ask_schedule.proofs.schedule.due_before.Goals as goal

pub returns-in-Some-clause-before : goal.returns-in-Some-clause-before
returns-in-Some-clause-before c = λ k d less.
    let due = due_in_front c.in-Some.last 0 c.args.rows.now.items k d c.requires (omega arith) in
    omega arith
