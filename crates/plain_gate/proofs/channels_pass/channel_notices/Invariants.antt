use Rattle.std.proofs.Common.{◌≡◌, ◌++◌, drop}
use Rattle.std.specs.List.{filter_map}
use Rattle.gateway_state.specs.Notices.{channel_notice, channel_notices}
use Rattle.plain_gate.proofs.channels_pass.channel_notices.Given as goal

-- the notices so far and those on the channels that are left are all
abbrev pub invariant-loop-channel : goal.invariant-loop-channel
invariant-loop-channel l =
    l.notices.items ++ filter_map (channel_notice l.rows) (drop l.channel-index l.channel-items) ≡ channel_notices l.rows
