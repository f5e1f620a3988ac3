use Rattle.std.proofs.Common.{◌∙◌, sym, ap, slice_get}
use Rattle.std.specs.Cmp.{nat_eq_equiv}
use Rattle.row_index.specs.Lists.{is_id}
use Rattle.row_index.proofs.Once.{others_at}
use Rattle.row_index.proofs.id_list.remove_id.Goals as goal

pub returns-in-Some : goal.returns-in-Some
returns-in-Some c =
    let there = ap (λ ids. slice_get ids c.in-Some.place) (sym c.as_slice.ensures) ∙ c.in-Some.ensures in
    c.remove.ensures ∙ others_at (is_id c.args.id) c.args.ids.now c.in-Some.place c.args.id there (nat_eq_equiv.refl c.args.id) c.requires
