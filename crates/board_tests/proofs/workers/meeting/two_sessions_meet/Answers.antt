use denote.Param.Send.{sendable}
use Rattle.std.proofs.Crossing.{crosses}
use Rattle.gate_board.proofs.GateCrosses.{gate_crosses}
use Rattle.board_tests.proofs.workers.meeting.two_sessions_meet.Goals as goal

-- all that the engine and the rings hold may go to another thread
pub serve_two_with_a_core-core-requires-sync-G : goal.serve_two_with_a_core-core-requires-sync-G
serve_two_with_a_core-core-requires-sync-G c = search (sendable, crosses, gate_crosses) depth 60 fits 20000
