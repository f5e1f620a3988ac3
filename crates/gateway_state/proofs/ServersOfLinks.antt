-- The server of every link has a row.
use Rattle.std.proofs.Common.{◌≡◌, ℕ, List, [], ◌∷◌, ◌++◌, Bool, true, false, eqb, not, ◌||◌, Some, None, refl, sym, ap, subst, ◌∙◌}
use Rattle.std.specs.Prelude.{filter}
use Rattle.std.specs.List.{list_all, list_any}
use Rattle.std.proofs.lemmas.Bool.{and_parts, eqb-true}
use Rattle.std.proofs.lemmas.List.Folds.{list_all-append, list_any-append}
use Rattle.rows.specs.Rows.{change_first}
use Rattle.link_table.specs.declared.links.LinkRow.{LinkRow}
use Rattle.link_table.specs.declared.servers.Server.{Server}
use Rattle.link_table.specs.Links.{is_link, is_not_link, is_not_of, with_state, with_subscription}
use Rattle.link_table.specs.Servers.{is_not_server, is_server, with_minor}
use Rattle.gateway_state.specs.declared.config.Config.{Config}
use Rattle.rule_desk.specs.declared.policy.Policy.{Policy}
use Rattle.gateway_state.specs.declared.connections.Connection.{Connection}
use Rattle.gateway_state.specs.declared.event.Dest.{Dest}
use Rattle.gateway_state.specs.declared.event.Dest.TheVariants.{Session, Upstream}
use Rattle.gateway_state.specs.declared.event.Event.{Event}
use Rattle.fanout.specs.Waiting.{Waiting}
use Rattle.gateway_state.specs.Connections.{fresh, is_not_to, is_to, same_dest}
use Rattle.gateway_state.specs.Gateway.{Gateway, initial}
use Rattle.gateway_state.specs.Notices.{next_sub_id}
use Rattle.gateway_state.specs.Reached.{IsReached}
use Rattle.gateway_state.specs.Settled.{HasServersOfLinks}
use Rattle.gateway_state.specs.Step.{run}
use Rattle.gateway_state.proofs.Kept.{IsKept, KeepsLinks, messages_kept, with_outbox}
use Rattle.gateway_state.proofs.KeptByRuns.{kept_run}
use Rattle.gateway_state.proofs.RowTests.{all_changed, all_filtered, all_left, all_weaker, any_changed, any_filtered}

-- the server of a connection has a row
abbrev is_rowed : List Server → Dest → Bool
is_rowed servers (Session number) = true
is_rowed servers (Upstream number) = list_any (is_server number) servers

abbrev has_row : List Server → Connection → Bool
has_row servers row = is_rowed servers row.dest

-- each server that is connected has a row, and so has the server of each link
record HasRows (w : Gateway) : Type 0 where
  connections : list_all (has_row w.upstream.servers) w.connections ≡ true
  links : HasServersOfLinks w

-- a server that has a row
abbrev is_listed : List Server → LinkRow → Bool
is_listed servers link = list_any (is_server link.server) servers

-- MORE ROWS, AND ROWS THAT CHANGE

rowed_more : (servers : List Server) (new : Server) (dest : Dest) → is_rowed servers dest ≡ true → is_rowed (servers ++ new ∷ []) dest ≡ true
rowed_more servers new (Session number) is = refl
rowed_more servers new (Upstream number) is = list_any-append (is_server number) servers (new ∷ []) ∙ rw is refl

rowed_changed : (number minor : ℕ) (servers : List Server) (dest : Dest) → is_rowed servers dest ≡ true → is_rowed (change_first (is_server number) (with_minor minor) servers) dest ≡ true
rowed_changed number minor servers (Session other) is = refl
rowed_changed number minor servers (Upstream other) is = any_changed (is_server other) (is_server number) (with_minor minor) servers (λ row. refl) ∙ is

-- ROWS THAT GO

another_row : (number other : ℕ) (row : Server) → not (eqb other number) ≡ true → is_server other row ≡ true → is_not_server number row ≡ true
another_row number other row differs is = ap (λ (n : ℕ). not (eqb n number)) (eqb-true row.number other is) ∙ differs

rowed_left : (number : ℕ) (servers : List Server) (dest : Dest) → not (same_dest dest (Upstream number)) ≡ true → is_rowed servers dest ≡ true → is_rowed (filter (is_not_server number) servers) dest ≡ true
rowed_left number servers (Session other) stays is = refl
rowed_left number servers (Upstream other) stays is = any_filtered (is_server other) (is_not_server number) servers (λ row same. another_row number other row stays same) is

-- no change of an outbox concerns the table
outboxes_changed : (dest : Dest) (change : Waiting → Waiting) (w : Gateway) → HasRows w → HasRows (with_outbox dest change w)
outboxes_changed dest change w on = record {
  connections =
      all_changed (has_row w.upstream.servers) (is_to dest) (λ (row : Connection). record row { outbox = change row.outbox }) w.connections (λ row. refl) ∙ on.connections;
  links = on.links;
}

-- a server that is connected has a row
connected_listed : (servers : List Server) (number : ℕ) (rows : List Connection) → list_all (has_row servers) rows ≡ true → list_any (is_to (Upstream number)) rows ≡ true → list_any (is_server number) servers ≡ true
connected_listed servers number [] all there = absurd cc
connected_listed servers number (row ∷ rows) all there = by (is_to (Upstream number) row) refl there (λ later. connected_listed servers number rows parts.1 later)
  where
    parts : (has_row servers row ≡ true) × (list_all (has_row servers) rows ≡ true)
    parts = and_parts (has_row servers row) (list_all (has_row servers) rows) all

    own : (dest : Dest) → same_dest dest (Upstream number) ≡ true → is_rowed servers dest ≡ true → list_any (is_server number) servers ≡ true
    own (Session other) same is = absurd cc
    own (Upstream other) same is = ap (λ (n : ℕ). list_any (is_server n) servers) (sym (eqb-true other number same)) ∙ is

    by : (is : Bool) → is_to (Upstream number) row ≡ is → (is || list_any (is_to (Upstream number)) rows) ≡ true
        → (list_any (is_to (Upstream number)) rows ≡ true → list_any (is_server number) servers ≡ true) → list_any (is_server number) servers ≡ true
    by true e is rest = own row.dest e parts.0
    by false e is rest = rest is

added_rowed : (servers : List Server) (dest : Dest) → ((number : ℕ) → dest ≡ Upstream number → list_any (is_server number) servers ≡ true) → is_rowed servers dest ≡ true
added_rowed servers (Session number) rowed = refl
added_rowed servers (Upstream number) rowed = rowed number refl

rows_kept : IsKept HasRows
rows_kept = record {
  rows = record {
    messages = messages_kept HasRows outboxes_changed;
    connection_added = λ dest w rowed on. record {
      connections =
          list_all-append (has_row w.upstream.servers) w.connections (fresh dest ∷ []) ∙ rw (on.connections, added_rowed w.upstream.servers dest rowed) refl;
      links = on.links;
    };
    session_added = λ row w there on. record { connections = on.connections; links = on.links };
    session_changed = λ number change w same on. record { connections = on.connections; links = on.links };
    server_added = λ row w on. record {
      connections =
          all_weaker (has_row w.upstream.servers) (has_row (w.upstream.servers ++ row ∷ [])) w.connections (λ connection is. rowed_more w.upstream.servers row connection.dest is) on.connections;
      links =
          all_weaker (is_listed w.upstream.servers) (is_listed (w.upstream.servers ++ row ∷ [])) w.upstream.links
          (λ link is. rowed_more w.upstream.servers row (Upstream link.server) is) on.links;
    };
    server_changed = λ number minor w on. record {
      connections =
          all_weaker (has_row w.upstream.servers) (has_row (change_first (is_server number) (with_minor minor) w.upstream.servers)) w.connections
          (λ connection is. rowed_changed number minor w.upstream.servers connection.dest is) on.connections;
      links =
          all_weaker (is_listed w.upstream.servers) (is_listed (change_first (is_server number) (with_minor minor) w.upstream.servers)) w.upstream.links
          (λ link is. rowed_changed number minor w.upstream.servers (Upstream link.server) is) on.links;
    };
    cache_left = λ stays w on. record { connections = on.connections; links = on.links };
    cached = λ server cid change w on. record { connections = on.connections; links = on.links };
    bare = λ cid w on. record { connections = on.connections; links = on.links };
    searches = λ rows w on. record { connections = on.connections; links = on.links };
    policy = λ policy w on. record { connections = on.connections; links = on.links };
    limits = λ limits w on. record { connections = on.connections; links = on.links };
    last_age = λ last w on. record { connections = on.connections; links = on.links };
    channel_added = λ session cid name real rights w fixed on. record { connections = on.connections; links = on.links };
    channel_changed = λ session sid reach rights w on. record { connections = on.connections; links = on.links };
    channel_removed = λ session sid w on. record { connections = on.connections; links = on.links };
    sub_added = λ sub w free there on. record { connections = on.connections; links = on.links };
    sub_changed = λ session id owed w on. record { connections = on.connections; links = on.links };
    sub_removed = λ session id w on. record { connections = on.connections; links = on.links };
    read_added = λ read w there on. record { connections = on.connections; links = on.links };
    read_removed = λ read w on. record { connections = on.connections; links = on.links };
    write_added = λ write w there next on. record { connections = on.connections; links = on.links };
    write_removed = λ server id w on. record { connections = on.connections; links = on.links };
    link_changed = λ server cid state rights w on. record {
      connections = on.connections;
      links = all_changed (is_listed w.upstream.servers) (is_link server cid) (with_state state rights) w.upstream.links (λ link. refl) ∙ on.links;
    };
    subscription_made = λ subject server cid mask count sent w on. record {
      connections = on.connections;
      links = all_changed (is_listed w.upstream.servers) (is_link server cid)
          (with_subscription subject (Some (record { id = next_sub_id w server; mask = mask; count = count; sent = sent }))) w.upstream.links (λ link. refl) ∙ on.links;
    };
    subscription_ended = λ subject server cid w on. record {
      connections = on.connections;
      links = all_changed (is_listed w.upstream.servers) (is_link server cid) (with_subscription subject None) w.upstream.links (λ link. refl) ∙ on.links;
    };
    link_removed = λ server cid w on. record {
      connections = on.connections;
      links = all_filtered (is_listed w.upstream.servers) (is_not_link server cid) w.upstream.links on.links;
    };
  };
  outbox_changed = outboxes_changed;
  session_removed = λ session w on. record {
    connections = all_filtered (has_row w.upstream.servers) (is_not_to (Session session)) w.connections on.connections;
    links = on.links;
  };
  server_removed = λ server w on. record {
    connections =
        all_left (has_row w.upstream.servers) (has_row (filter (is_not_server server) w.upstream.servers)) (is_not_to (Upstream server)) w.connections
        (λ row stays is. rowed_left server w.upstream.servers row.dest stays is) on.connections;
    links =
        all_left (is_listed w.upstream.servers) (is_listed (filter (is_not_server server) w.upstream.servers)) (is_not_of server) w.upstream.links
        (λ link stays is. rowed_left server w.upstream.servers (Upstream link.server) stays is) on.links;
  };
}

rows_with_links : KeepsLinks HasRows
rows_with_links = λ server name w missing standing on. record {
  connections = on.connections;
  links =
      list_all-append (is_listed w.upstream.servers) w.upstream.links _
      ∙ rw (on.links, connected_listed w.upstream.servers server w.connections on.connections standing) refl;
}

run_rows : (config : Config) (policy : Policy) (events : List Event) → HasRows (run (initial config policy) events)
run_rows config policy events = kept_run HasRows rows_kept rows_with_links (initial config policy) events (record { connections = refl; links = refl })

pub run_servers_of_links : (config : Config) (policy : Policy) (events : List Event) → HasServersOfLinks (run (initial config policy) events)
run_servers_of_links config policy events = (run_rows config policy events).links

-- where an event begins
pub reached_servers : (w : Gateway) → IsReached w → HasServersOfLinks w
reached_servers w reached = subst HasServersOfLinks (sym reached.by_run) (run_servers_of_links reached.config reached.policy reached.events)
