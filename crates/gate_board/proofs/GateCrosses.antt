-- The gateway may go to another thread, and so may be shared behind the lock.
use denote.Param.Send.{IsSend, sendable}
use Rattle.std.proofs.Crossing.{crosses}
use Rattle.gateway_rows.specs.contracts.counted_rows.CountedRows as rows
use Rattle.gateway_rows.specs.contracts.state.Known as known
use Rattle.gateway_core.specs.contracts.engine.Engine as engine
use Rattle.gate_board.proofs.PartsCross.{table_send, links_send}
use Rattle.gate_board.proofs.StateCrosses.{connections_send, cache_send, searches_send, unanswered_send}
use Rattle.gate_board.proofs.RingsCross.{attachments_send, inlet_send, outlet_send}

known_send : IsSend known.the_row
known_send = search (sendable, crosses, connections_send, table_send, links_send, cache_send, searches_send, unanswered_send) depth 60 fits 20000

rows_send : IsSend rows.the_row
rows_send = search (sendable, crosses, known_send) depth 60 fits 20000

pub engine_send : IsSend engine.the_row
engine_send = search (sendable, crosses, rows_send) depth 60 fits 20000

pub ruleset gate_crosses = (engine_send, attachments_send, inlet_send, outlet_send)
