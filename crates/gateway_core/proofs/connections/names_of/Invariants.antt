use Rattle.std.proofs.Common.{◌≡◌, ◌++◌, drop, filter}
use Rattle.named_rows.specs.Channels.{is_channel_of}
use Rattle.channel_table.specs.Looks.{IsCounted}
use Rattle.gateway_state.specs.Variables.{channel_names}
use Rattle.gateway_core.proofs.connections.names_of.Given as goal

-- those taken so far and those that are left are all, with one look for each that was passed
abbrev pub invariant-loop-n : goal.invariant-loop-n
invariant-loop-n l =
    (l.names ++ drop l.n (channel_names (filter (is_channel_of l.number) l.clients.rows.channels)) ≡ channel_names (filter (is_channel_of l.number) l.clients.rows.channels))
    × IsCounted l.n l.fn.visits l.visits
