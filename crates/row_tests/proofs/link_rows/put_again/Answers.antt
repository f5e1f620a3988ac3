use Rattle.std.proofs.Common.{◌≡◌, Option, false, Some, sym, ap, subst, ◌∙◌}
use Rattle.std.specs.Prelude.{IfSome}
use Rattle.std.specs.List.{find, list_any}
use Rattle.std.specs.Option.{option_and_then, option_copied}
use Rattle.link_table.specs.declared.links.LinkRow.{LinkRow}
use Rattle.link_table.specs.declared.links.Subject.TheVariants.{Values}
use Rattle.link_table.specs.declared.links.Subscription.{Subscription}
use Rattle.link_table.specs.Links.{is_link, has_other_sub}
use Rattle.row_tests.proofs.link_rows.put_again.Goals as goal

-- the ID of the link's own subscription is no other's
pub set_sub-requires : goal.set_sub-requires
set_sub-requires c =
    let links = c.args.links.now.links in
    let at : LinkRow → Option Subscription = λ row. row.subscriptions.values in
    let P : Option Subscription → Type 0 = λ o. IfSome o (λ sub. list_any (has_other_sub c.args.server c.args.cid Values sub.id) links ≡ false) in
    let there : option_and_then at (find (is_link c.args.server c.args.cid) links) ≡ Some c.in-Some-at.had =
    ap (option_and_then at) (sym c.by_cid.ensures ∙ ap option_copied c.in-Some.is) ∙ sym c.at.ensures ∙ c.in-Some-at.is in
    record { new_id = subst P there (c.has_ids_apart.ensures c.args.server c.args.cid Values) }
