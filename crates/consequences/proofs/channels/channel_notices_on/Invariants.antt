use Rattle.std.proofs.Common.{◌≡◌, ◌≤◌, ◌+◌, ◌++◌, length, map}
use Rattle.std.specs.List.{filter_map}
use Rattle.channel_table.specs.Looks.{GoesOn}
use Rattle.gateway_rows.specs.Own.{channels_on}
use Rattle.gateway_state.specs.Notices.{channel_notice}
use Rattle.touched_rows.specs.Touched.{channel_notices_on}
use Rattle.consequences.proofs.channels.channel_notices_on.Given as goal

-- the notices so far and those on the channels that are left are all, and of each that was passed one more row was looked at
abbrev pub invariant-loop-channel : goal.invariant-loop-channel
invariant-loop-channel l =
    (l.notices.items ++ filter_map (channel_notice l.known.state) (map (λ row. row.now) l.channel-iterator.rest.items) ≡ channel_notices_on l.name l.known.state)
    × (l.visits.looks + length (map (λ row. row.now) l.channel-iterator.rest.items) ≤ l.fn.visits.looks + (channels_on l.known.state l.name + channels_on l.known.state l.name))
    × GoesOn l.fn.visits l.visits
