use Rattle.std.proofs.Common.{sym, ◌∙◌}
use Rattle.board_rings.proofs.AttachmentOrder.{place_is, place_other, place_past}
use Rattle.board_rings.proofs.places.place_of.Goals as goal
use Rattle.board_rings.proofs.places.place_of.Goals.{else-place-rows-via-then-place-rows+else-is_of, else-place-rows-via-else-place-rows}

pub returns-then-is_of : goal.returns-then-is_of
returns-then-is_of c =
    sym (place_is c.args.dest c.args.rows.now _ c.place_for-place.ensures.place c.index-rows-place.result c.if-place-rows.true c.index-rows-place.is (sym c.is_of.ensures ∙ c.if-is_of.true))

pub returns-else-place-rows : goal.returns-else-place-rows
returns-else-place-rows c =
    elim c.else-place-rows.branch [
      | else-place-rows-via-then-place-rows+else-is_of w ↦
          sym (place_other c.args.dest c.args.rows.now _ c.place_for-place.ensures.place w.index-rows-place.result c.requires w.if-place-rows.true w.index-rows-place.is (sym w.is_of.ensures ∙ w.if-is_of.false))
      | else-place-rows-via-else-place-rows w ↦
          sym (place_past c.args.dest c.args.rows.now _ c.place_for-place.ensures.place w.if-place-rows.false)
    ]
