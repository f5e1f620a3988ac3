use Rattle.std.proofs.Common.{◌≡◌, ◌+◌, ◌++◌, drop, sym, ap, subst, arith, ◌∙◌}
use Rattle.std.specs.Prelude.{filter_map}
use Rattle.row_index.specs.Slots.{place_in}
use Rattle.row_index.proofs.InOrder.{none_next, one_next}
use Rattle.row_index.proofs.slots.places_of.Goals.{in-Some+in_ok-push, in_default}
use Rattle.row_index.proofs.slots.places_of.Goals as goal

-- the place of one key more was found, if it has one
pub loop-key-preserved : goal.loop-key-preserved
loop-key-preserved g c =
    let slots = c.args.slots.now in
    let keys = c.args.keys.now in
    let n = c.loop-key.key-index in
    elim c.match-find_place.branch [
      | in-Some+in_ok-push w ↦
          subst (λ items. items ++ filter_map (place_in slots) (drop (n + 1) keys) ≡ filter_map (place_in slots) keys)
          (sym (ap (λ v. v.items) w.found-is ∙ w.in_ok-push.ensures.items))
          (one_next (place_in slots) _ keys n c.loop-key.found.items w.in-Some.place (omega (arith, c.loop-key-test.true)) (sym c.find_place.ensures ∙ w.in-Some.is) c.loop-key.invariant)
      | in_default w ↦
          subst (λ items. items ++ filter_map (place_in slots) (drop (n + 1) keys) ≡ filter_map (place_in slots) keys)
          (sym (ap (λ v. v.items) w.found-is))
          (none_next (place_in slots) _ keys n c.loop-key.found.items (omega (arith, c.loop-key-test.true)) (sym c.find_place.ensures ∙ w.in_default.is) c.loop-key.invariant)
    ]
