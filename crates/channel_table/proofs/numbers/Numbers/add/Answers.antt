use Rattle.std.proofs.Common.{sym, ◌∙◌}
use Rattle.channel_table.proofs.Rising.{put_in, there}
use Rattle.channel_table.proofs.numbers.Numbers.add.Goals as goal

pub returns-in-Ok-clause-ok : goal.returns-in-Ok-clause-ok
returns-in-Ok-clause-ok c =
    rw (← c.self.view_is) (sym (there c.args.number c.self.inside.numbers.items c.in-Ok.field-0 c.self.invariant (rw (← c.deref.ensures.value) c.in-Ok.ensures.ok)))

pub returns-in_ok-insert-in-Err-clause-ok : goal.returns-in_ok-insert-in-Err-clause-ok
returns-in_ok-insert-in-Err-clause-ok c =
    rw (← c.self.view_is) (c.in_ok-insert-in-Err.ensures.items ∙ sym (put_in c.args.number c.self.inside.numbers.items c.in-Err.place (rw (← c.deref.ensures.value) c.in-Err.ensures.err)))
