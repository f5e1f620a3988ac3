-- Clients that know their rights.
use Rattle.std.specs.Prelude.{◌≡◌}
use Rattle.std.specs.List.{All}
use Rattle.named_rows.specs.declared.channels.Channel.{Channel}
use Rattle.gateway_state.specs.Gateway.{Gateway}
use Rattle.gateway_state.specs.Rights.{rights_of}

-- a channel has the rights that its client was last told
abbrev pub KnowsRights : Gateway → Channel → Type 0
KnowsRights w c = c.rights_told ≡ rights_of w c

-- so has each channel
abbrev pub KnowRights : Gateway → Type 0
KnowRights w = All (KnowsRights w) w.clients.channels
