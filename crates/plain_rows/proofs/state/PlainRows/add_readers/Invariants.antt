use Rattle.std.proofs.Common.{◌≡◌, ◌++◌, map, filter, drop}
use Rattle.gateway_state.specs.Interest.{is_reader, reader_ask}
use Rattle.plain_rows.proofs.state.PlainRows.add_readers.Given as goal

-- what was added and what the channels that are left ask for is what all ask for
abbrev pub invariant-loop-channel : goal.invariant-loop-channel
invariant-loop-channel l =
    l.asks.items ++ map reader_ask (filter (is_reader l.self l.name) (drop l.channel-index l.channel-items)) ≡ l.fn.asks.items ++ map reader_ask (filter (is_reader l.self l.name) l.self.clients.channels)
