-- Every link belongs to a server that stands.
use Rattle.std.proofs.Common.{◌≡◌, ℕ, List, [], ◌∷◌, ◌++◌, Bool, true, not, eqb, Some, None, refl, ap, ◌∙◌}
use Rattle.std.specs.Prelude.{filter}
use Rattle.std.specs.List.{list_all, list_any}
use Rattle.std.proofs.lemmas.Bool.{eqb-true}
use Rattle.std.proofs.lemmas.List.Folds.{list_all-append, list_any-append}
use Rattle.link_table.specs.declared.links.LinkRow.{LinkRow}
use Rattle.link_table.specs.Links.{is_link, is_not_link, is_not_of, with_state, with_subscription}
use Rattle.gateway_state.specs.declared.config.Config.{Config}
use Rattle.rule_desk.specs.declared.policy.Policy.{Policy}
use Rattle.gateway_state.specs.declared.connections.Connection.{Connection}
use Rattle.gateway_state.specs.declared.event.Dest.{Dest}
use Rattle.gateway_state.specs.declared.event.Dest.TheVariants.{Session, Upstream}
use Rattle.gateway_state.specs.declared.event.Event.{Event}
use Rattle.fanout.specs.Waiting.{Waiting}
use Rattle.gateway_state.specs.Connections.{fresh, is_not_to, is_to, same_dest}
use Rattle.gateway_state.specs.Gateway.{Gateway, initial}
use Rattle.gateway_state.specs.Notices.{next_sub_id}
use Rattle.gateway_state.specs.Settled.{HasLinksOnServers, is_on_server}
use Rattle.gateway_state.specs.Step.{run}
use Rattle.gateway_state.proofs.Kept.{IsKept, KeepsLinks, messages_kept, with_outbox}
use Rattle.gateway_state.proofs.KeptByRuns.{kept_run}
use Rattle.gateway_state.proofs.RowTests.{all_changed, all_filtered, all_left, all_weaker, any_changed, any_filtered}

-- the connection of a server is none of a client
not_a_client : (number server : ℕ) (dest : Dest) → same_dest dest (Upstream server) ≡ true → not (same_dest dest (Session number)) ≡ true
not_a_client number server (Session n) same = absurd cc
not_a_client number server (Upstream n) same = refl

-- links stay with their servers where other connections go
links_left : (rows : List Connection) (number : ℕ) (links : List LinkRow)
    → list_all (λ (link : LinkRow). list_any (is_to (Upstream link.server)) rows) links ≡ true
    → list_all (λ (link : LinkRow). list_any (is_to (Upstream link.server)) (filter (is_not_to (Session number)) rows)) links ≡ true
links_left rows number links on =
    all_weaker (λ (link : LinkRow). list_any (is_to (Upstream link.server)) rows) (λ (link : LinkRow). list_any (is_to (Upstream link.server)) (filter (is_not_to (Session number)) rows)) links
    (λ link there. any_filtered (is_to (Upstream link.server)) (is_not_to (Session number)) rows (λ row same. not_a_client number link.server row.dest same) there) on

-- another server is none of this number
another_server : (number server : ℕ) (dest : Dest) → not (eqb server number) ≡ true → same_dest dest (Upstream server) ≡ true → not (same_dest dest (Upstream number)) ≡ true
another_server number server (Session n) other same = refl
another_server number server (Upstream n) other same = ap (λ (m : ℕ). not (eqb m number)) (eqb-true n server same) ∙ other

-- a server's links go with it, and the others stay
module _ (rows : List Connection) (number : ℕ) where
  abbrev stood : LinkRow → Bool
  stood link = list_any (is_to (Upstream link.server)) rows

  abbrev stands_still : LinkRow → Bool
  stands_still link = list_any (is_to (Upstream link.server)) (filter (is_not_to (Upstream number)) rows)

  others_left : (links : List LinkRow) → list_all stood links ≡ true → list_all stands_still (filter (is_not_of number) links) ≡ true
  others_left links on =
      all_left stood stands_still (is_not_of number) links
      (λ link other there. any_filtered (is_to (Upstream link.server)) (is_not_to (Upstream number)) rows (λ row same. another_server number link.server row.dest other same) there) on

-- no change of an outbox takes a connection away
outboxes_changed : (dest : Dest) (change : Waiting → Waiting) (w : Gateway) → HasLinksOnServers w → HasLinksOnServers (with_outbox dest change w)
outboxes_changed dest change w on =
    let changed : Connection → Connection = λ row. record row { outbox = change row.outbox } in
    all_weaker (is_on_server w) (is_on_server (with_outbox dest change w)) w.upstream.links
    (λ link there. any_changed (is_to (Upstream link.server)) (is_to dest) changed w.connections (λ row. refl) ∙ there) on

links_on_servers_kept : IsKept HasLinksOnServers
links_on_servers_kept = record {
  rows = record {
    messages = messages_kept HasLinksOnServers outboxes_changed;
    connection_added = λ dest w rowed on.
        all_weaker (is_on_server w) (λ (link : LinkRow). list_any (is_to (Upstream link.server)) (w.connections ++ fresh dest ∷ [])) w.upstream.links
        (λ link there. list_any-append (is_to (Upstream link.server)) w.connections (fresh dest ∷ []) ∙ rw there refl) on;
    session_added = λ row w there on. on;
    session_changed = λ number change w same on. on;
    server_added = λ row w on. on;
    server_changed = λ number minor w on. on;
    cache_left = λ stays w on. on;
    cached = λ server cid change w on. on;
    bare = λ cid w on. on;
    searches = λ rows w on. on;
    policy = λ policy w on. on;
    limits = λ limits w on. on;
    last_age = λ last w on. on;
    channel_added = λ session cid name real rights w fixed on. on;
    channel_changed = λ session sid reach rights w on. on;
    channel_removed = λ session sid w on. on;
    sub_added = λ sub w free there on. on;
    sub_changed = λ session id owed w on. on;
    sub_removed = λ session id w on. on;
    read_added = λ read w there on. on;
    read_removed = λ read w on. on;
    write_added = λ write w there next on. on;
    write_removed = λ server id w on. on;
    link_changed = λ server cid state rights w on. all_changed (is_on_server w) (is_link server cid) (with_state state rights) w.upstream.links (λ link. refl) ∙ on;
    subscription_made = λ subject server cid mask count sent w on.
        all_changed (is_on_server w) (is_link server cid) (with_subscription subject (Some (record { id = next_sub_id w server; mask = mask; count = count; sent = sent }))) w.upstream.links (λ link. refl) ∙ on;
    subscription_ended = λ subject server cid w on. all_changed (is_on_server w) (is_link server cid) (with_subscription subject None) w.upstream.links (λ link. refl) ∙ on;
    link_removed = λ server cid w on. all_filtered (is_on_server w) (is_not_link server cid) w.upstream.links on;
  };
  outbox_changed = outboxes_changed;
  session_removed = λ session w on. links_left w.connections session w.upstream.links on;
  server_removed = λ server w on. others_left w.connections server w.upstream.links on;
}

pub links_on_servers_with_links : KeepsLinks HasLinksOnServers
links_on_servers_with_links = λ server name w missing standing on. list_all-append (is_on_server w) w.upstream.links _ ∙ rw (on, standing) refl

pub run_links_on_servers : (config : Config) (policy : Policy) (events : List Event) → HasLinksOnServers (run (initial config policy) events)
run_links_on_servers config policy events = kept_run HasLinksOnServers links_on_servers_kept links_on_servers_with_links (initial config policy) events refl
