-- Elements whose bytes stay are written as they are.
use Rattle.dbr_layout.proofs.Converting.{map-unchanged, on_ok, on_ok_items}
use Rattle.dbr_layout.proofs.Elements.{AreSized-take}
use Rattle.dbr_layout.proofs.conversion.put_elements.Goals as goal

pub returns-in-Unchanged-clause-ok : goal.returns-in-Unchanged-clause-ok
returns-in-Unchanged-clause-ok c =
    rw (c.in-Unchanged.is, map-unchanged c.args.states.now c.args.elements.now.items, ← c.first.ensures.bytes) (on_ok_items _ _ _ _ c.extend_from_slice.ensures.items)

pub returns-in-Unchanged-clause-sized : goal.returns-in-Unchanged-clause-sized
returns-in-Unchanged-clause-sized c =
    rw (c.in-Unchanged.is, map-unchanged c.args.states.now c.args.elements.now.items) (on_ok c.extend_from_slice.result _ (AreSized-take _ c.args.count c.args.elements.now.items c.first.ensures.sized))
