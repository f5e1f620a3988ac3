use Rattle.std.proofs.Common.{◌≡◌, map, refl, sym, ap, ◌∙◌, subst}
use Rattle.std.specs.Option.{option_copied_mut}
use Rattle.rows.specs.Rows.{change_first}
use Rattle.row_index.specs.Rows.{row_of}
use Rattle.link_table.specs.declared.link_set.LinkSet.TheInside.{Inside}
use Rattle.link_table.specs.Links.{is_link, with_state}
use Rattle.link_table.specs.LinkIndex.{key, AreIndexed}
use Rattle.link_table.proofs.LinkSetLemmas.{indexed_with_kept, rows_with_put, rows_with_none_put}
use Rattle.link_table.proofs.link_set.LinkSet.put.Goals as goal
use Rattle.link_table.proofs.link_set.LinkSet.put.Goals.{in-Some, in_default}

-- a link keeps its key, its name and its subscription
pub invariant_of-self : goal.invariant_of-self
invariant_of-self c =
    let s = c.self.inside in
    let P : Inside → Type 0 = λ t. AreIndexed t.rows t.by_name t.leads in
    elim c.match-get_mut.branch [
      | in-Some w ↦
          let there = sym c.get_mut.ensures.value ∙ ap option_copied_mut w.in-Some.is in
          subst P (sym w.self-inside-is) (indexed_with_kept s.rows s.by_name s.leads c.self.invariant (key c.args.server c.args.cid) (with_state c.args.state c.args.rights) (λ row. refl) w.in-Some.row.now refl (λ subject. refl) there)
      | in_default w ↦ subst P (sym w.self-inside-is) c.self.invariant
    ]

pub returns : goal.returns
returns c =
    let s = c.self.inside in
    let k = key c.args.server c.args.cid in
    let f = with_state c.args.state c.args.rights in
    let P : Inside → Type 0 = λ t. map row_of t.rows ≡ change_first (is_link c.args.server c.args.cid) f c.args.self.now in
    let seen = ap (change_first (is_link c.args.server c.args.cid) f) c.self.view_is in
    elim c.match-get_mut.branch [
      | in-Some w ↦
          let there = sym c.get_mut.ensures.value ∙ ap option_copied_mut w.in-Some.is in
          subst P (sym w.self-inside-is) (rows_with_put s.rows c.self.invariant.keyed k f (λ row. refl) w.in-Some.row.now there ∙ seen)
      | in_default w ↦
          let none = sym c.get_mut.ensures.value ∙ ap option_copied_mut w.in_default.is in
          subst P (sym w.self-inside-is) (rows_with_none_put s.rows c.self.invariant.keyed k f none ∙ seen)
    ]
