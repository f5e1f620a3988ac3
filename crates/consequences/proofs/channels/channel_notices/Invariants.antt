use Rattle.std.proofs.Common.{◌≡◌, ◌++◌, map}
use Rattle.std.specs.List.{filter_map}
use Rattle.channel_table.specs.Looks.{GoesOn}
use Rattle.gateway_state.specs.Notices.{channel_notice, channel_notices}
use Rattle.consequences.proofs.channels.channel_notices.Given as goal

-- the notices so far and those on the channels that are left are all
abbrev pub invariant-loop-channel : goal.invariant-loop-channel
invariant-loop-channel l =
    (l.notices.items ++ filter_map (channel_notice l.known.state) (map (λ row. row.now) l.channel-iterator.rest.items) ≡ channel_notices l.known.state)
    × GoesOn l.fn.visits l.visits
