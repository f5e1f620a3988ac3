use denote.Param.Send.{sendable}
use Rattle.std.proofs.Crossing.{crosses}
use Rattle.gate_board.proofs.GateCrosses.{gate_crosses}
use Rattle.serve.proofs.opening.open.Goals as goal

-- all that the engine and the rings hold may go to another thread
pub serve-requires-send-G : goal.serve-requires-send-G
serve-requires-send-G c = search (sendable, crosses, gate_crosses) depth 60 fits 20000

pub serve-requires-sync-G : goal.serve-requires-sync-G
serve-requires-sync-G c = search (sendable, crosses, gate_crosses) depth 60 fits 20000
