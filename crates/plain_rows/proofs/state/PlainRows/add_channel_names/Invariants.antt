use Rattle.std.proofs.Common.{◌≡◌, fold, drop}
use Rattle.gateway_state.specs.Variables.{channel_names, with_unlinked}
use Rattle.plain_rows.proofs.state.PlainRows.add_channel_names.Given as goal

-- adding the names that are left leads from here to where adding all leads
abbrev pub invariant-loop-channel : goal.invariant-loop-channel
invariant-loop-channel l =
    fold (with_unlinked l.self) l.names.items (channel_names (drop l.channel-index l.channel-items)) ≡ fold (with_unlinked l.self) l.fn.names.items (channel_names l.self.clients.channels)
