use denote.Param.Send.{sendable}
use Rattle.std.proofs.Crossing.{crosses}
use Rattle.gate_board.proofs.GateCrosses.{gate_crosses}
use Rattle.board_tests.proofs.workers.gates.a_take_waits_for_a_message.Goals as goal

-- all that the engine and the rings hold may go to another thread
pub take_beside_a_turn-requires-sync-G : goal.take_beside_a_turn-requires-sync-G
take_beside_a_turn-requires-sync-G c = search (sendable, crosses, gate_crosses) depth 60 fits 20000
