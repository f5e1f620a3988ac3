use Rattle.std.proofs.Common.{◌≡◌, ◌∙◌, sym, ap, refl, length, slice_get, Some, map, filter}
use Rattle.std.proofs.lemmas.Option.{slice_get_read}
use Rattle.row_index.specs.Rows.{id_of, is_owned_by}
use Rattle.row_index.proofs.Owned.{row_of_id}
use Rattle.row_index.proofs.row_map.RowMap.of.Goals as goal

pub returns : goal.returns
returns g c =
    let id = c.in_ok-id.field-0.now in
    let here : slice_get c.of.result.now c.args.n ≡ Some id = slice_get_read c.of.result.now (length c.of.result.now) c.args.n id refl c.in_ok-id.ensures.lookup.3.0 c.in_ok-id.ensures.lookup.1 in
    let at : slice_get (map id_of (filter (is_owned_by c.args.owner) c.self.inside.rows)) c.args.n ≡ Some id = ap (λ ids. slice_get ids c.args.n) (sym (c.of.ensures ∙ c.self.invariant c.args.owner)) ∙ here in
    rw (← c.self.view_is) (c.get-2.ensures ∙ row_of_id c.args.owner c.args.n id c.self.inside.rows c.has_keys_apart.ensures at)
