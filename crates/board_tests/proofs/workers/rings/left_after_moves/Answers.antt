use Rattle.std.proofs.Common.{◌∙◌}
use Rattle.board_tests.proofs.RingPairs.{attached_rings}
use Rattle.board_tests.proofs.workers.rings.left_after_moves.Goals as goal

-- the rings are those that the connection got
pub left_between-requires : goal.left_between-requires
left_between-requires c =
    rw (c.move_some.ensures.inlet, c.move_some.ensures.outlet)
    (c.move_some.ensures.rings c.args.dest ∙ attached_rings c.args.dest _ _ _ _ _ c.in-Ok.ensures.ok.attachments)
