use Rattle.std.proofs.Common.{Some, None, refl, sym, ap, ◌∙◌}
use Rattle.std.specs.List.{find}
use Rattle.link_table.specs.Links.{has_subscription}
use Rattle.link_table.proofs.LinkSetLemmas.{subscribed_at}
use Rattle.link_table.proofs.link_set.LinkSet.by_sub.Goals as goal

-- the key under the subscription leads to the first link that has it
pub returns-in-Some : goal.returns-in-Some
returns-in-Some c =
    let s = c.self.inside in
    let led = sym c.get.ensures ∙ c.in-Some.is in
    subscribed_at s.rows s.by_name s.leads c.self.invariant c.args.server c.args.id (Some c.in-Some.key) _ led c.get-in-Some.ensures ∙ ap (find (has_subscription c.args.server c.args.id)) c.self.view_is

pub returns-in-None : goal.returns-in-None
returns-in-None c =
    let s = c.self.inside in
    let led = sym c.get.ensures ∙ c.in-None.is in
    subscribed_at s.rows s.by_name s.leads c.self.invariant c.args.server c.args.id None None led refl ∙ ap (find (has_subscription c.args.server c.args.id)) c.self.view_is
