-- How much the gateway keeps.
use Rattle.std.specs.Prelude.{length}
use Rattle.gateway_state.specs.declared.row_counts.RowCounts.{RowCounts}
use Rattle.gateway_state.specs.Gateway.{Gateway}

-- how many rows of each kind there are
abbrev pub row_counts : Gateway → RowCounts
row_counts w = record {
  sessions = length w.clients.sessions;
  channels = length w.clients.channels;
  subs = length w.clients.subs;
  reads = length w.clients.reads;
  servers = length w.upstream.servers;
  links = length w.upstream.links;
  writes = length w.upstream.writes;
  searches = length w.searches;
}
