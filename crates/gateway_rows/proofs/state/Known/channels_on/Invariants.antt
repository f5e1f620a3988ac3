use Rattle.std.proofs.Common.{◌≡◌, ◌++◌, filter, map, drop}
use Rattle.named_rows.specs.Channels.{is_on}
use Rattle.channel_table.specs.Looks.{IsCounted}
use Rattle.gateway_rows.proofs.state.Known.channels_on.Given as goal

-- those taken so far and those that are left are all
abbrev pub invariant-loop-n : goal.invariant-loop-n
invariant-loop-n l =
    (map (λ channel. channel.now) l.channels.items ++ drop l.n (filter (is_on l.name) l.self.state.clients.channels) ≡ filter (is_on l.name) l.self.state.clients.channels)
    × IsCounted l.n l.fn.visits l.visits
