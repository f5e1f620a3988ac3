-- Each turn writes one element more, and the last turn is that of the last element.
use Rattle.std.proofs.Common.{◌≡◌, ◌<◌, length, min, arith, ap, ◌∙◌}
use Rattle.std.proofs.lemmas.List.{append_assoc}
use Rattle.dbr_layout.specs.Conversion.{converted_size}
use Rattle.dbr_layout.proofs.Converting.{AreSized-map_more, concat-map_more, map-take_min}
use Rattle.dbr_layout.proofs.conversion.put_each.Goals as goal

pub loop-index-preserved : goal.loop-index-preserved
loop-index-preserved c =
    let there : c.loop-index.index < length c.args.elements.now.items = omega arith in (
      rw (c.in_ok-put_element.ensures.ok, c.loop-index.invariant.0, c.element.ensures.bytes, concat-map_more c.args.states.now c.args.how _ _ there, append_assoc),
      AreSized-map_more _ c.args.states.now c.args.how _ _ there c.loop-index.invariant.1
          (rw (← c.element.ensures.bytes) (c.put_element.ensures.sized ∙ ap (converted_size c.args.how) c.element.ensures.len)),
    )

pub returns-clause-ok : goal.returns-clause-ok
returns-clause-ok c =
    let last : c.loop-index.index ≡ min c.args.count (length c.args.elements.now.items) = omega (arith, c.count.ensures, c.min-index-end.ensures) in
    rw (← map-take_min c.args.states.now c.args.how c.args.elements.now.items c.args.count, ← last) c.loop-index.invariant.0

pub returns-clause-sized : goal.returns-clause-sized
returns-clause-sized c =
    let last : c.loop-index.index ≡ min c.args.count (length c.args.elements.now.items) = omega (arith, c.count.ensures, c.min-index-end.ensures) in
    rw (← map-take_min c.args.states.now c.args.how c.args.elements.now.items c.args.count, ← last) c.loop-index.invariant.1
