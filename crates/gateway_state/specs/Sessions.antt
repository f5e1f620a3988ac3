-- Connections that come and go.
use Rattle.std.specs.Prelude.{ℕ, List, [], ◌∷◌, ◌++◌, length, filter, false, ◌||◌, nat_le, if◌then◌else◌}
use Rattle.ca_message.specs.declared.to_client.ToClient.TheVariants as replies
use Rattle.ca_message.specs.declared.to_server.ToServer.TheVariants as requests
use Rattle.named_rows.specs.Channels.{is_not_channel_of}
use Rattle.named_rows.specs.Reads.{is_not_read_of}
use Rattle.channel_table.specs.Sessions.{is_not_numbered}
use Rattle.named_rows.specs.Subs.{is_not_sub_of}
use Rattle.link_table.specs.Links.{is_not_of}
use Rattle.link_table.specs.Servers.{is_not_server}
use Rattle.link_table.specs.Writes.{is_not_write_of, is_not_write_to}
use Rattle.gateway_state.specs.declared.event.Dest.TheVariants.{Session, Upstream}
use Rattle.gateway_state.specs.Asked.{is_open}
use Rattle.gateway_state.specs.CachedRows.{is_cached_by_another}
use Rattle.gateway_state.specs.Connections.{is_not_to, fresh}
use Rattle.gateway_state.specs.Gateway.{Gateway}
use Rattle.gateway_state.specs.Telling.{told, asked}

-- with the rows of a new session
abbrev pub with_session : Gateway → ℕ → List ℕ → Gateway
with_session w number host = record w {
  connections = w.connections ++ fresh (Session number) ∷ [];
  clients = record w.clients {
    sessions = w.clients.sessions ++ record { number = number; peer = host; host = host; user = []; host_fixed = false; paused = false } ∷ [];
  };
}

-- a client connected: it is greeted with VERSION. Nothing where its number stands or no place is left
abbrev pub opened : Gateway → ℕ → List ℕ → Gateway
opened w number host =
    if is_open w (Session number) || nat_le w.limits.sessions (length w.clients.sessions) then w
    else told number replies.Version (with_session w number host)

-- a client's connection is gone, and with it all its rows
abbrev pub lost : Gateway → ℕ → Gateway
lost w number = record w {
  connections = filter (is_not_to (Session number)) w.connections;
  clients = record {
    sessions = filter (is_not_numbered number) w.clients.sessions;
    channels = filter (is_not_channel_of number) w.clients.channels;
    subs = filter (is_not_sub_of number) w.clients.subs;
    reads = filter (is_not_read_of number) w.clients.reads;
  };
  upstream = record w.upstream { writes = filter (is_not_write_of number) w.upstream.writes };
}

-- with the rows of a new server, whose minor version isn't known yet
abbrev pub with_server : Gateway → ℕ → Gateway
with_server w number = record w {
  connections = w.connections ++ fresh (Upstream number) ∷ [];
  upstream = record w.upstream { servers = w.upstream.servers ++ record { number = number; minor = 0 } ∷ [] };
}

-- the gateway says its version and its names
abbrev pub introduced : ℕ → Gateway → Gateway
introduced number w =
    asked number (requests.HostName w.config.host_name)
    (asked number (requests.ClientName w.config.client_name) (asked number requests.Version w))

-- a server is connected: the gateway introduces itself. Nothing where its number stands or no place is left
abbrev pub up_opened : Gateway → ℕ → Gateway
up_opened w number =
    if is_open w (Upstream number) || nat_le w.limits.servers (length w.upstream.servers) then w
    else introduced number (with_server w number)

-- a server's connection is gone, and with it its links, their last messages and the writes to it
abbrev pub up_lost : Gateway → ℕ → Gateway
up_lost w number = record w {
  connections = filter (is_not_to (Upstream number)) w.connections;
  upstream = record w.upstream {
    servers = filter (is_not_server number) w.upstream.servers;
    links = filter (is_not_of number) w.upstream.links;
    writes = filter (is_not_write_to number) w.upstream.writes;
  };
  cache = filter (is_cached_by_another number) w.cache;
}
