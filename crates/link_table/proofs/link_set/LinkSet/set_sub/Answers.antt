use Rattle.std.proofs.Common.{◌≡◌, List, false, Some, None, map, refl, sym, ap, ◌∙◌, subst}
use Rattle.std.specs.Prelude.{IfSome}
use Rattle.std.specs.List.{list_any}
use Rattle.std.specs.Option.{option_copied, option_copied_mut}
use Rattle.std.proofs.lemmas.Option.{same_Some}
use Rattle.rows.specs.Rows.{change_first}
use Rattle.row_index.specs.Rows.{row_of, put_at}
use Rattle.link_table.specs.declared.link_set.LinkSet.TheInside.{Inside}
use Rattle.link_table.specs.declared.links.LinkRow.{LinkRow}
use Rattle.link_table.specs.declared.links.Subject.{Subject}
use Rattle.link_table.specs.Links.{is_link, has_other_sub, is_same_id, sub_at, with_subscription}
use Rattle.link_table.specs.LinkIndex.{key, leads_at, renewed, sub_key, AreIndexed, IsFree}
use Rattle.link_table.proofs.LinkSetLemmas.{indexed_with_renewed, key_at, rows_with_put, rows_with_none_put, unused}
use Rattle.link_table.proofs.link_set.LinkSet.set_sub.Goals as goal
use Rattle.link_table.proofs.link_set.LinkSet.set_sub.Goals.{in-Some-get_mut, in_default-get_mut}

-- where there is no such link, none changes
pub returns-in_default-clause-ok : goal.returns-in_default-clause-ok
returns-in_default-clause-ok c =
    let k = key c.args.server c.args.cid in
    let f = with_subscription c.args.subject c.args.sub in
    let none = sym c.get.ensures ∙ ap option_copied c.in_default.is in
    sym c.self.view_is ∙ rows_with_none_put c.self.inside.rows c.self.invariant.keyed k f none ∙ ap (change_first (is_link c.args.server c.args.cid) f) c.self.view_is

-- the new ID leads nowhere yet, unless it is the one that the link had
pub renew-requires : goal.renew-requires
renew-requires c =
    λ differs.
    let s = c.self.inside in
    let there = sym c.get.ensures ∙ ap option_copied c.in-Some.is in
    let P : List LinkRow → Type 0 = λ rows. IfSome c.args.sub (λ x. list_any (has_other_sub c.args.server c.args.cid c.args.subject x.id) rows ≡ false) in
    unused s.rows s.by_name s.leads c.self.invariant c.args.server c.args.cid c.args.subject c.args.sub c.in-Some.link.now there (ap (λ was. is_same_id was c.args.sub) (sym c.at-was.ensures) ∙ differs) (subst P (sym c.self.view_is) c.requires) c.args.subject

-- it leads to the link, in place of the one that it had
pub invariant_of-self-2 : goal.invariant_of-self-2
invariant_of-self-2 c =
    let s = c.self.inside in
    let k = key c.args.server c.args.cid in
    let f = with_subscription c.args.subject c.args.sub in
    let row = c.in-Some.link.now in
    let there = sym c.get.ensures ∙ ap option_copied c.in-Some.is in
    let own = ap (λ x. x.owner) (key_at s.rows c.self.invariant.keyed k row there) in
    let P : List LinkRow → Type 0 = λ rows. IfSome c.args.sub (λ x. list_any (has_other_sub c.args.server c.args.cid c.args.subject x.id) rows ≡ false) in
    let Q : Inside → Type 0 = λ t. AreIndexed t.rows t.by_name t.leads in
    let free : is_same_id (sub_at c.args.subject row.subscriptions) c.args.sub ≡ false → (to : Subject) → IsFree (sub_key c.args.server c.args.sub) (leads_at to s.leads) = λ differs. unused s.rows s.by_name s.leads c.self.invariant c.args.server c.args.cid c.args.subject c.args.sub row there differs (subst P (sym c.self.view_is) c.requires) in
    let moved = indexed_with_renewed s.rows s.by_name s.leads c.self.invariant k c.args.subject c.args.sub row there own free in
    let leads = c.in_ok-renew.ensures.ok ∙ (λ i. renewed c.args.subject (c.at-was.ensures i) c.args.sub k s.leads) in
    elim c.match-get_mut.branch [
      | in-Some-get_mut w ↦
          let same = same_Some _ _ (sym (ap option_copied_mut w.in-Some-get_mut.is) ∙ c.get_mut.ensures.value ∙ there) in
          let put : record w.in-Some-get_mut.row.now { subscriptions = w.put.new.self } ≡ f row = (λ i. record w.in-Some-get_mut.row.now { subscriptions = w.put.ensures i }) ∙ ap f same in
          subst Q (sym w.self-inside-is) (rw (put, leads) moved)
      | in_default-get_mut w ↦
          let clash : None ≡ Some row = sym (ap option_copied_mut w.in_default-get_mut.is) ∙ c.get_mut.ensures.value ∙ there in
          cc
    ]

pub returns-clause-ok : goal.returns-clause-ok
returns-clause-ok c =
    let s = c.self.inside in
    let k = key c.args.server c.args.cid in
    let f = with_subscription c.args.subject c.args.sub in
    let P : Inside → Type 0 = λ t. map row_of t.rows ≡ change_first (is_link c.args.server c.args.cid) f c.args.self.now in
    elim c.match-get_mut.branch [
      | in-Some-get_mut w ↦
          let row = w.in-Some-get_mut.row.now in
          let there = sym c.get_mut.ensures.value ∙ ap option_copied_mut w.in-Some-get_mut.is in
          let put : record row { subscriptions = w.put.new.self } ≡ f row = λ i. record row { subscriptions = w.put.ensures i } in
          subst P (sym w.self-inside-is) (ap (λ x. map row_of (put_at k s.rows x)) put ∙ rows_with_put s.rows c.self.invariant.keyed k f (λ x. refl) row there ∙ ap (change_first (is_link c.args.server c.args.cid) f) c.self.view_is)
      | in_default-get_mut w ↦
          let clash : None ≡ Some c.in-Some.link.now = sym (ap option_copied_mut w.in_default-get_mut.is) ∙ c.get_mut.ensures.value ∙ sym c.get.ensures ∙ ap option_copied c.in-Some.is in
          cc
    ]
