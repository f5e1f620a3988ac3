-- Which server a channel is on.
use Rattle.std.specs.Prelude.{ℕ, Option, Some, None}
use Rattle.std.specs.Option.{option_map}
use Rattle.named_rows.specs.declared.channels.Channel.{Channel}
use Rattle.link_table.specs.declared.links.LinkRow.{LinkRow}
use Rattle.gateway_state.specs.Gateway.{Gateway}
use Rattle.gateway_state.specs.Rights.{channel_of}
use Rattle.gateway_state.specs.Variables.{link_of}

abbrev pub server_over : Gateway → Option Channel → Option ℕ
server_over w None = None
server_over w (Some c) = option_map (λ (l : LinkRow). l.server) (link_of w c.real)

-- the number of the server on whose link a session's channel stands, nothing where there is no such channel
abbrev pub server_of : Gateway → ℕ → ℕ → Option ℕ
server_of w session sid = server_over w (channel_of w session sid)
