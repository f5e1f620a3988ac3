use denote.Param.Send.{sendable}
use Rattle.std.proofs.Crossing.{crosses}
use Rattle.gate_board.proofs.GateCrosses.{gate_crosses}
use Rattle.board_tests.proofs.workers.gates.a_put_waits_for_room.Goals as goal

-- all that the engine and the rings hold may go to another thread
pub put_beside_a_turn-requires-sync-G : goal.put_beside_a_turn-requires-sync-G
put_beside_a_turn-requires-sync-G c = search (sendable, crosses, gate_crosses) depth 60 fits 20000
