use Rattle.std.proofs.Common.{Some, None, refl, sym, ap, ◌∙◌}
use Rattle.std.specs.Prelude.{slice_get}
use Rattle.std.specs.List.{find}
use Rattle.std.specs.Option.{option_copied}
use Rattle.link_table.specs.Links.{is_named}
use Rattle.link_table.proofs.LinkSetLemmas.{named_at}
use Rattle.link_table.proofs.link_set.LinkSet.by_name.Goals as goal

-- the first key under the name leads to the first link for it
pub returns-in-Some : goal.returns-in-Some
returns-in-Some c =
    let s = c.self.inside in
    let led = ap (λ keys. slice_get keys 0) (sym c.of.ensures) ∙ sym c.first.ensures.value ∙ ap option_copied c.in-Some.is in
    named_at s.rows s.by_name s.leads c.self.invariant c.args.name.now (Some c.in-Some.key.now) _ led c.get.ensures ∙ ap (find (is_named c.args.name.now)) c.self.view_is

pub returns-in-None : goal.returns-in-None
returns-in-None c =
    let s = c.self.inside in
    let led = ap (λ keys. slice_get keys 0) (sym c.of.ensures) ∙ sym c.first.ensures.value ∙ ap option_copied c.in-None.is in
    named_at s.rows s.by_name s.leads c.self.invariant c.args.name.now None None led refl ∙ ap (find (is_named c.args.name.now)) c.self.view_is
