-- What is said to connections.
use Rattle.std.specs.Prelude.{ℕ}
use Rattle.ca_header.specs.Header.{canonical_header}
use Rattle.ca_message.specs.declared.to_client.ToClient.{ToClient}
use Rattle.ca_message.specs.declared.to_server.ToServer.{ToServer}
use Rattle.ca_message.specs.ToClient.{client_head, client_payload}
use Rattle.ca_message.specs.ToServer.{server_head, server_payload}
use Rattle.rows.specs.Rows.{change_first}
use Rattle.gateway_state.specs.declared.event.Dest.{Dest}
use Rattle.gateway_state.specs.declared.event.Dest.TheVariants.{Session, Upstream}
use Rattle.fanout.specs.declared.outbox.Out.{Out}
use Rattle.gateway_state.specs.Connections.{is_to, given, marked_now, most_for}
use Rattle.gateway_state.specs.Gateway.{Gateway}

-- a message to a client as it goes out: its wire form
unfoldable pub outgoing : ToClient → Out
outgoing said = record { head = canonical_header (client_head said); payload = client_payload said }

-- a message to a server as it goes out
unfoldable pub outgoing_upstream : ToServer → Out
outgoing_upstream said = record { head = canonical_header (server_head said); payload = server_payload said }

-- a connection is given a message, where it stands and isn't marked
unfoldable pub sent : Dest → Out → Gateway → Gateway
sent dest out w = record w { connections = change_first (is_to dest) (given (most_for w.limits dest) out) w.connections }

-- a client is told something
abbrev pub told : ℕ → ToClient → Gateway → Gateway
told number said w = sent (Session number) (outgoing said) w

-- a server is asked for something
abbrev pub asked : ℕ → ToServer → Gateway → Gateway
asked number said w = sent (Upstream number) (outgoing_upstream said) w

-- a connection is marked to end
abbrev pub marked : Dest → Gateway → Gateway
marked dest w = record w { connections = change_first (is_to dest) marked_now w.connections }
