use Rattle.std.proofs.Common.{◌≡◌, Some, None, map, sym, ap, ◌∙◌, subst}
use Rattle.std.specs.List.{filter, list_any}
use Rattle.std.specs.Option.{option_copied}
use Rattle.std.proofs.lemmas.Option.{same_Some}
use Rattle.row_index.proofs.Owned.{undone}
use Rattle.row_index.specs.Lists.{AddsTo}
use Rattle.row_index.specs.Rows.{row_of, lacks_key, value_at}
use Rattle.link_table.specs.declared.links.LinkRow.{LinkRow}
use Rattle.link_table.specs.Links.{is_link, is_named, new_link}
use Rattle.link_table.specs.LinkIndex.{key, key_of}
use Rattle.link_table.proofs.KeyedLemmas.{new_key}
use Rattle.link_table.proofs.LinkSetLemmas.{bare, indexed_with_more, indexed_as, unnamed}
use Rattle.link_table.proofs.ValueLemmas.{value_of_added}
use Rattle.link_table.proofs.link_set.LinkSet.add.Goals as goal

-- no link stands under the key
pub add-requires : goal.add-requires
add-requires c =
    let new = ap (list_any (is_link c.args.server c.args.cid)) c.self.view_is ∙ c.requires.new_id in
    record { new = new_key key_of c.self.inside.rows c.self.invariant.keyed (key c.args.server c.args.cid) new }

-- the link that was added stands there
pub invariant_of-self-in_default : goal.invariant_of-self-in_default
invariant_of-self-in_default c =
    let k = key c.args.server c.args.cid in
    let link = c.new_link.result in
    let new = new_key key_of c.self.inside.rows c.self.invariant.keyed k (ap (list_any (is_link c.args.server c.args.cid)) c.self.view_is ∙ c.requires.new_id) in
    let clash : None ≡ Some link = sym (ap option_copied c.in_default.is) ∙ c.get.ensures ∙ ap (value_at k) c.in_ok-add.ensures.ok ∙ value_of_added k link c.self.inside.rows new in
    cc

-- its name leads to it
pub invariant_of-self-in-Ok : goal.invariant_of-self-in-Ok
invariant_of-self-in-Ok c =
    let s = c.self.inside in
    let k = key c.args.server c.args.cid in
    let link = new_link c.args.server c.args.cid c.args.name in
    let new = new_key key_of s.rows c.self.invariant.keyed k (ap (list_any (is_link c.args.server c.args.cid)) c.self.view_is ∙ c.requires.new_id) in
    let free = unnamed s.rows s.by_name s.leads c.self.invariant c.args.name (ap (list_any (is_named c.args.name)) c.self.view_is ∙ c.requires.new_name) in
    let same = same_Some _ _ (sym (ap option_copied c.in-Some.is) ∙ c.get.ensures ∙ ap (value_at k) c.in_ok-add.ensures.ok ∙ value_of_added k c.new_link.result s.rows new) ∙ c.new_link.ensures in
    let Q : LinkRow → Type 0 = λ l. AddsTo l.name k s.by_name c.add-2.new.self in
    rw (c.in_ok-add.ensures.ok, c.new_link.ensures) (indexed_with_more s.rows s.by_name c.add-2.new.self s.leads c.self.invariant link new free (bare c.args.server c.args.cid c.args.name) (subst Q same c.in-Ok.ensures.ok))

-- a link that is added and removed again leaves the links as they were
pub invariant_of-self-in-Err : goal.invariant_of-self-in-Err
invariant_of-self-in-Err c =
    let s = c.self.inside in
    let k = key c.args.server c.args.cid in
    let new = new_key key_of s.rows c.self.invariant.keyed k (ap (list_any (is_link c.args.server c.args.cid)) c.self.view_is ∙ c.requires.new_id) in
    let back = c.remove.ensures ∙ ap (filter (lacks_key k)) c.in_ok-add.ensures.ok ∙ undone k c.new_link.result s.rows new in
    rw back (indexed_as s.rows s.by_name c.add-2.new.self s.leads c.self.invariant c.in-Err.ensures.err)

pub returns-in-Err-clause-err : goal.returns-in-Err-clause-err
returns-in-Err-clause-err c =
    let s = c.self.inside in
    let k = key c.args.server c.args.cid in
    let new = new_key key_of s.rows c.self.invariant.keyed k (ap (list_any (is_link c.args.server c.args.cid)) c.self.view_is ∙ c.requires.new_id) in
    ap (map row_of) (c.remove.ensures ∙ ap (filter (lacks_key k)) c.in_ok-add.ensures.ok ∙ undone k c.new_link.result s.rows new) ∙ c.self.view_is
