use Rattle.std.proofs.Common.{sym, ◌∙◌, arith, take}
use Rattle.row_index.proofs.Agreeing.{none_found, agrees_next, agrees_past}
use Rattle.row_index.proofs.Slotted.{new_there}
use Rattle.row_index.proofs.slots.renew.Goals as goal
use Rattle.row_index.proofs.slots.renew.Goals.{in-Full, in-Empty}

pub put_place-requires-clause-new : goal.put_place-requires-clause-new
put_place-requires-clause-new g c =
    let slots = c.args.slots.now in
    let i = c.loop-place.place in
    let d = c.index-slots-place.result in
    none_found c.in-Full.key (take i slots) c.loop-place.places.entries c.loop-place.invariant.agree (new_there slots i d c.in-Full.key c.in-Full.field-1 c.loop-place-test.true (sym c.index-slots-place.is ∙ c.in-Full.is) c.requires.apart)

pub loop-place-preserved : goal.loop-place-preserved
loop-place-preserved g c =
    let slots = c.args.slots.now in
    let i = c.loop-place.place in
    let d = c.index-slots-place.result in
    let room = c.loop-place.invariant.room in
    elim c.match-slot.branch [
      | in-Full w ↦
          rw w.places-is record {
            agree = agrees_next slots i d c.loop-place.places.entries w.in-Full.key w.in-Full.field-1 w.put_place.new.places.entries c.loop-place-test.true (sym c.index-slots-place.is ∙ w.in-Full.is) c.requires.apart c.loop-place.invariant.agree w.put_place.ensures.found w.put_place.ensures.count;
            room = let used = w.put_place.ensures.room in omega (arith, used, room);
          }
      | in-Empty w ↦
          rw w.places-is record {
            agree = agrees_past slots i d c.loop-place.places.entries c.loop-place-test.true (sym c.index-slots-place.is ∙ w.in-Empty.is) c.loop-place.invariant.agree;
            room = omega (arith, room);
          }
    ]
