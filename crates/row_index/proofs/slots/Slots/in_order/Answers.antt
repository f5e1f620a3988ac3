use Rattle.std.proofs.Common.{◌≡◌, eqb, map, ap, subst, ◌∙◌}
use Rattle.std.specs.List.{filter}
use Rattle.std.specs.List.Sorted.{IsPermutation}
use Rattle.std.specs.Prelude.{filter_map}
use Rattle.std.proofs.lemmas.List.Filters.{dedup_is}
use Rattle.std.proofs.lemmas.Result.{IfOk-weaker}
use Rattle.row_index.specs.Rows.{has_one_of, row_of}
use Rattle.row_index.specs.Slots.{places_of, value_there}
use Rattle.row_index.proofs.InOrder.{rows_in_order}
use Rattle.row_index.proofs.slots.Slots.in_order.Goals as goal

-- the values at the places of the keys, which were put into order, each once
pub returns : goal.returns
returns g c =
    let slots = c.self.inside.slots.items in
    let keys = c.args.keys.now in
    let sorted = c.sort_unstable.new.self.items in
    let moved : IsPermutation (places_of keys slots) sorted =
    subst (λ xs. IsPermutation xs sorted) (c.in_ok-places.ensures ∙ ap (places_of keys) c.deref.ensures.value) c.sort_unstable.ensures.permutation in
    IfOk-weaker c.values_at.result
    (λ rows. map (λ row. row.now) rows.items ≡ filter_map (value_there c.deref-2.result.now) c.deref-3.result.now)
    (λ rows. map (λ row. row.now) rows.items ≡ map row_of (filter (has_one_of keys) c.args.self.now))
    (λ rows is.
    is ∙ (λ i. filter_map (value_there (c.deref-2.ensures.value i)) (c.deref-3.ensures.value i)) ∙ ap (filter_map (value_there slots)) (dedup_is eqb sorted c.dedup.new.self.items c.dedup.ensures.filtered)
    ∙ rows_in_order slots keys sorted c.self.invariant.agrees.apart moved c.sort_unstable.ensures.sorted
    ∙ ap (λ entries. map row_of (filter (has_one_of keys) entries)) c.self.view_is)
    c.values_at.ensures
