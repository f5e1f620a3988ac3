-- The gateway state.
use Rattle.std.specs.Prelude.{List, [], false}
use Rattle.channel_table.specs.declared.table.TheConstants.{CHANNEL_LIMIT, READ_LIMIT, SESSION_LIMIT, SUB_LIMIT}
use Rattle.channel_table.specs.ClientRows.{ClientRows}
use Rattle.link_table.specs.declared.table.TheConstants.{LINK_LIMIT, SERVER_LIMIT, WRITE_LIMIT}
use Rattle.link_table.specs.Counters.{all_at}
use Rattle.link_table.specs.LinkRows.{LinkRows}
use Rattle.fanout.specs.declared.outbox.TheConstants.{OUTBOX_LIMIT}
use Rattle.gateway_state.specs.declared.cached.LastMessage.{LastMessage}
use Rattle.gateway_state.specs.declared.config.Config.{Config}
use Rattle.gateway_state.specs.declared.last_age.LastAge.{LastAge}
use Rattle.gateway_state.specs.declared.limits.Limits.{Limits}
use Rattle.gateway_state.specs.declared.limits.TheConstants.{SEARCH_LIMIT, UPDATE_BYTES}
use Rattle.rule_desk.specs.declared.policy.Policy.{Policy}
use Rattle.gateway_state.specs.declared.connections.Connection.{Connection}
use Rattle.gateway_state.specs.declared.search.RememberedSearch.{RememberedSearch}

-- all that the gateway knows, as whole lists of rows
pub record Gateway : Type 0 where
  pub config : Config
  pub policy : Policy
  pub limits : Limits
  pub connections : List Connection
  pub clients : ClientRows
  pub upstream : LinkRows
  pub cache : List LastMessage
  pub searches : List RememberedSearch
  pub last_age : LastAge

-- what holds until it is told otherwise
abbrev pub usual_limits : Limits
usual_limits = record {
  sessions = SESSION_LIMIT;
  servers = SERVER_LIMIT;
  links = LINK_LIMIT;
  searches = SEARCH_LIMIT;
  share = SEARCH_LIMIT;
  channels = CHANNEL_LIMIT;
  subs = SUB_LIMIT;
  reads = READ_LIMIT;
  writes = WRITE_LIMIT;
  messages = OUTBOX_LIMIT;
  update_bytes = UPDATE_BYTES;
  makes_room = false;
  reuses_numbers = false;
  passes_over_gone = false;
  tells_unreadable = false;
  answers_searches = false;
  checks_hosts = false;
}

-- what it knows before any event: nothing but its configuration, and where its four counters begin
abbrev pub initial : Config → Policy → Gateway
initial config policy = record {
  config = config;
  policy = policy;
  limits = usual_limits;
  connections = [];
  clients = record { sessions = []; channels = []; subs = []; reads = [] };
  upstream = record {
    servers = [];
    links = [];
    writes = [];
    counters = all_at config.first;
  };
  cache = [];
  searches = [];
  last_age = record { cid = config.first; subscription = config.first };
}
