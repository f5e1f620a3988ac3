use Rattle.std.proofs.Common.{◌∙◌}
use Rattle.channel_table.specs.Numbers.{StandsAt}
use Rattle.channel_table.proofs.Rising.{not_there, others_beside, rising_less}
use Rattle.channel_table.proofs.numbers.Numbers.remove.Goals as goal

pub invariant_of-self : goal.invariant_of-self
invariant_of-self c =
    let at : StandsAt c.args.number c.self.inside.numbers.items c.in-Ok.place = rw (← c.deref.ensures.value) c.in-Ok.ensures.ok in
    rw c.remove.ensures.items (rising_less c.self.inside.numbers.items c.in-Ok.place at.within c.self.invariant)

pub returns-in-Ok : goal.returns-in-Ok
returns-in-Ok c =
    rw (← c.self.view_is) (c.remove.ensures.items ∙ others_beside c.args.number c.self.inside.numbers.items c.in-Ok.place c.self.invariant (rw (← c.deref.ensures.value) c.in-Ok.ensures.ok))

pub returns-in_default : goal.returns-in_default
returns-in_default c =
    rw (← c.self.view_is) (not_there c.args.number c.self.inside.numbers.items c.in_default.field-0 (rw (← c.deref.ensures.value) c.in_default.ensures.err))
