use Rattle.std.proofs.Common.{sym, ◌∙◌}
use Rattle.board_rings.proofs.AttachmentOrder.{place_guessed}
use Rattle.board_rings.proofs.places.place_near.Goals as goal

pub returns-then-is_of : goal.returns-then-is_of
returns-then-is_of c =
    sym (place_guessed c.args.dest c.args.rows.now c.args.guess c.index-rows-guess.result c.requires c.if-guess-rows.true c.index-rows-guess.is (sym c.is_of.ensures ∙ c.if-is_of.true))
