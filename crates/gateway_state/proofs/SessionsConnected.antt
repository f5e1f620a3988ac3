-- Every session has a connection.
use Rattle.std.proofs.Common.{◌≡◌, ℕ, List, [], ◌∷◌, ◌++◌, Bool, true, false, eqb, not, refl, sym, ap, subst, ◌∙◌}
use Rattle.std.specs.Prelude.{filter}
use Rattle.std.specs.List.{list_all, list_any}
use Rattle.std.proofs.lemmas.Bool.{eqb-true, true≢false}
use Rattle.std.proofs.lemmas.List.Folds.{list_all-append, list_any-append}
use Rattle.channel_table.specs.declared.sessions.Session.{Session}
use Rattle.channel_table.specs.ClientRows.{has_session}
use Rattle.channel_table.specs.Sessions.{is_not_numbered, is_numbered}
use Rattle.rule_desk.specs.declared.policy.Policy.{Policy}
use Rattle.fanout.specs.Waiting.{Waiting}
use Rattle.gateway_state.specs.declared.config.Config.{Config}
use Rattle.gateway_state.specs.declared.connections.Connection.{Connection}
use Rattle.gateway_state.specs.declared.event.Dest.{Dest}
use Rattle.gateway_state.specs.declared.event.Dest.TheVariants as dests
use Rattle.gateway_state.specs.declared.event.Event.{Event}
use Rattle.gateway_state.specs.Asked.{is_open}
use Rattle.gateway_state.specs.Connections.{fresh, is_not_to, is_to, same_dest}
use Rattle.gateway_state.specs.Direct.{direct_effect}
use Rattle.gateway_state.specs.Gateway.{Gateway, initial}
use Rattle.gateway_state.specs.Reached.{IsReached}
use Rattle.gateway_state.specs.Settled.{HasSessionsConnected, is_session_connected}
use Rattle.gateway_state.specs.Step.{run}
use Rattle.gateway_state.proofs.Kept.{IsKept, KeepsLinks, messages_kept, with_outbox}
use Rattle.gateway_state.proofs.KeptByRuns.{kept_direct_effect, kept_run}
use Rattle.gateway_state.proofs.RowTests.{all_changed, all_left, all_weaker, any_changed, any_filtered, none_passes}

-- no change of an outbox takes a connection away
outboxes_changed : (dest : Dest) (change : Waiting → Waiting) (w : Gateway) → HasSessionsConnected w → HasSessionsConnected (with_outbox dest change w)
outboxes_changed dest change w connected =
    let changed : Connection → Connection = λ row. record row { outbox = change row.outbox } in
    all_weaker (is_session_connected w) (is_session_connected (with_outbox dest change w)) w.clients.sessions
    (λ row there. any_changed (is_to (dests.Session row.number)) (is_to dest) changed w.connections (λ connection. refl) ∙ there) connected

-- the connection of a client is none of a server
not_a_server : (server number : ℕ) (dest : Dest) → same_dest dest (dests.Session number) ≡ true → not (same_dest dest (dests.Upstream server)) ≡ true
not_a_server server number (dests.Session n) same = refl
not_a_server server number (dests.Upstream n) same = absurd cc

-- another client is none of this number
another_client : (number other : ℕ) (dest : Dest) → not (eqb other number) ≡ true → same_dest dest (dests.Session other) ≡ true → not (same_dest dest (dests.Session number)) ≡ true
another_client number other (dests.Session n) apart same = ap (λ (m : ℕ). not (eqb m number)) (eqb-true n other same) ∙ apart
another_client number other (dests.Upstream n) apart same = refl

module _ (rows : List Connection) where
  abbrev is_connected : Session → Bool
  is_connected row = list_any (is_to (dests.Session row.number)) rows

  -- a session goes with its connection, and the others stay
  others_left : (number : ℕ) (sessions : List Session) → list_all is_connected sessions ≡ true
      → list_all (λ (row : Session). list_any (is_to (dests.Session row.number)) (filter (is_not_to (dests.Session number)) rows)) (filter (is_not_numbered number) sessions) ≡ true
  others_left number sessions connected =
      all_left is_connected (λ (row : Session). list_any (is_to (dests.Session row.number)) (filter (is_not_to (dests.Session number)) rows)) (is_not_numbered number) sessions
      (λ row other there. any_filtered (is_to (dests.Session row.number)) (is_not_to (dests.Session number)) rows (λ connection same. another_client number row.number connection.dest other same) there) connected

  -- sessions stay where a server's connection goes
  all_stay : (server : ℕ) (sessions : List Session) → list_all is_connected sessions ≡ true
      → list_all (λ (row : Session). list_any (is_to (dests.Session row.number)) (filter (is_not_to (dests.Upstream server)) rows)) sessions ≡ true
  all_stay server sessions connected =
      all_weaker is_connected (λ (row : Session). list_any (is_to (dests.Session row.number)) (filter (is_not_to (dests.Upstream server)) rows)) sessions
      (λ row there. any_filtered (is_to (dests.Session row.number)) (is_not_to (dests.Upstream server)) rows (λ connection same. not_a_server server row.number connection.dest same) there) connected

sessions_connected_kept : IsKept HasSessionsConnected
sessions_connected_kept = record {
  rows = record {
    messages = messages_kept HasSessionsConnected outboxes_changed;
    connection_added = λ dest w rowed connected.
        all_weaker (is_session_connected w) (λ (row : Session). list_any (is_to (dests.Session row.number)) (w.connections ++ fresh dest ∷ [])) w.clients.sessions
        (λ row there. list_any-append (is_to (dests.Session row.number)) w.connections (fresh dest ∷ []) ∙ rw there refl) connected;
    session_added = λ row w there connected. list_all-append (is_session_connected w) w.clients.sessions (row ∷ []) ∙ rw (connected, there) refl;
    session_changed = λ number change w same connected.
        all_changed (is_session_connected w) (is_numbered number) change w.clients.sessions (λ row. ap (λ (n : ℕ). is_open w (dests.Session n)) (same.same_number row)) ∙ connected;
    server_added = λ row w connected. connected;
    server_changed = λ number minor w connected. connected;
    cache_left = λ stays w connected. connected;
    cached = λ server cid change w connected. connected;
    bare = λ cid w connected. connected;
    searches = λ rows w connected. connected;
    policy = λ policy w connected. connected;
    limits = λ limits w connected. connected;
    last_age = λ last w connected. connected;
    channel_added = λ session cid name real rights w fixed connected. connected;
    channel_changed = λ session sid reach rights w connected. connected;
    channel_removed = λ session sid w connected. connected;
    sub_added = λ sub w free there connected. connected;
    sub_changed = λ session id owed w connected. connected;
    sub_removed = λ session id w connected. connected;
    read_added = λ read w there connected. connected;
    read_removed = λ read w connected. connected;
    write_added = λ write w there next connected. connected;
    write_removed = λ server id w connected. connected;
    link_changed = λ server cid state rights w connected. connected;
    subscription_made = λ subject server cid mask count sent w connected. connected;
    subscription_ended = λ subject server cid w connected. connected;
    link_removed = λ server cid w connected. connected;
  };
  outbox_changed = outboxes_changed;
  session_removed = λ session w connected. others_left w.connections session w.clients.sessions connected;
  server_removed = λ server w connected. all_stay w.connections server w.clients.sessions connected;
}

sessions_connected_with_links : KeepsLinks HasSessionsConnected
sessions_connected_with_links = λ server name w missing standing connected. connected

pub run_sessions_connected : (config : Config) (policy : Policy) (events : List Event) → HasSessionsConnected (run (initial config policy) events)
run_sessions_connected config policy events = kept_run HasSessionsConnected sessions_connected_kept sessions_connected_with_links (initial config policy) events refl

-- where an event begins
pub reached_sessions : (w : Gateway) → IsReached w → HasSessionsConnected w
reached_sessions w reached = subst HasSessionsConnected (sym reached.by_run) (run_sessions_connected reached.config reached.policy reached.events)

-- after its direct effect
pub sessions_after_effect : (w : Gateway) (event : Event) → IsReached w → HasSessionsConnected (direct_effect w event)
sessions_after_effect w event reached = kept_direct_effect HasSessionsConnected sessions_connected_kept sessions_connected_with_links w event (reached_sessions w reached)

-- the number of no connection is new: no session has it
pub session_is_new : (w : Gateway) (number : ℕ) → HasSessionsConnected w → is_open w (dests.Session number) ≡ false → has_session number w.clients ≡ false
session_is_new w number connected free = none_passes (is_session_connected w) (is_numbered number) w.clients.sessions (λ row there. by row there (eqb row.number number) refl) connected
  where
    by : (row : Session) → is_session_connected w row ≡ true → (same : Bool) → eqb row.number number ≡ same → same ≡ false
    by row there true is = absurd (true≢false (sym there ∙ ap (λ (n : ℕ). is_open w (dests.Session n)) (eqb-true row.number number is) ∙ free))
    by row there false is = refl
