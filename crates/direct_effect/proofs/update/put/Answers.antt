use Rattle.std.proofs.Common.{sym, ap, ◌∙◌}
use Rattle.link_table.specs.declared.links.Subject.{Subject}
use Rattle.gateway_state.specs.Servers.{is_heard}
use Rattle.direct_effect.proofs.Described.{description_tells}
use Rattle.direct_effect.proofs.update.put.Goals as goal

-- properties are told without the element too
pub put_properties-requires : goal.put_properties-requires
put_properties-requires c =
    description_tells c.args.arrival.native c.args.arrival.dtype c.args.arrival.count c.args.payload (sym (ap (λ (subject : Subject). is_heard subject c.args.arrival.native c.args.arrival.asked_with c.args.arrival.dtype c.args.arrival.count c.args.payload) c.in-Properties.is) ∙ c.requires)
