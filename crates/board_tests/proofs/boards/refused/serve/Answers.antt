use Rattle.std.proofs.Common.{◌∙◌}
use Rattle.board_tests.proofs.RingPairs.{attached_rings}
use Rattle.board_tests.proofs.boards.refused.serve.Goals as goal

-- the rings are those that the connection got
pub left_between-requires : goal.left_between-requires
left_between-requires c =
    rw (c.move_them.ensures.inlet, c.move_them.ensures.outlet)
    (c.move_them.ensures.rings c.args.dest ∙ attached_rings c.args.dest _ _ _ _ _ c.in-Ok.ensures.ok.attachments)
