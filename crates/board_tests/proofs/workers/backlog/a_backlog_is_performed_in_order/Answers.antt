use denote.Param.Send.{sendable}
use Rattle.std.proofs.Crossing.{crosses}
use Rattle.gate_board.proofs.GateCrosses.{gate_crosses}
use Rattle.board_tests.proofs.workers.backlog.a_backlog_is_performed_in_order.Goals as goal

-- all that the engine and the rings hold may go to another thread
pub begin_the_core-core-requires-sync-G : goal.begin_the_core-core-requires-sync-G
begin_the_core-core-requires-sync-G c = search (sendable, crosses, gate_crosses) depth 60 fits 20000
