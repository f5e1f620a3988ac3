use denote.Param.Send.{IsSync, sendable}
use Rattle.std.proofs.Crossing.{crosses}
use Rattle.gate_board.proofs.GateCrosses.{gate_crosses}
use Rattle.wait_tests.specs.contracts.story.Stand as stand
use Rattle.wait_tests.proofs.story.act_on.Goals as goal

-- all that the engine and the rings hold may go to another thread
stand_sync : IsSync stand.the_row
stand_sync = search (sendable, crosses, gate_crosses) depth 60 fits 20000

pub act-requires-sync-G : goal.act-requires-sync-G
act-requires-sync-G c = search (sendable, stand_sync) depth 60 fits 20000
