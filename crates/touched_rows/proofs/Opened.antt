-- A new session or server concerns nobody who was there.
use Rattle.std.proofs.Common.{◌≡◌, ℕ, List, [], ◌∷◌, ◌++◌, true, false, cond, not, ◌||◌, Option, Some, None, refl, sym, ap, ◌∙◌}
use Rattle.std.specs.Prelude.{length, nat_le}
use Rattle.std.specs.List.{All, find}
use Rattle.std.specs.Option.{option_or}
use Rattle.std.proofs.lemmas.Bool.{and_from, and_parts, true≢false}
use Rattle.std.proofs.lemmas.List.Elements.{All-weaker}
use Rattle.std.proofs.lemmas.List.Folds.{find-append}
use Rattle.ca_message.specs.declared.to_client.ToClient.TheVariants as replies
use Rattle.ca_message.specs.declared.to_server.ToServer.TheVariants as requests
use Rattle.named_rows.specs.declared.channels.Channel.{Channel}
use Rattle.channel_table.specs.declared.sessions.Session.{Session}
use Rattle.channel_table.specs.Sessions.{is_numbered}
use Rattle.rule_desk.specs.declared.policy.Policy.{Policy}
use Rattle.gateway_state.specs.declared.connections.Connection.{Connection}
use Rattle.gateway_state.specs.declared.event.Dest.TheVariants.{Session as ToSession, Upstream}
use Rattle.gateway_state.specs.Asked.{is_open}
use Rattle.gateway_state.specs.Connections.{fresh}
use Rattle.gateway_state.specs.Gateway.{Gateway}
use Rattle.gateway_state.specs.Resolution.{is_real}
use Rattle.gateway_state.specs.Rights.{lead_for, lead_in, link_connected}
use Rattle.gateway_state.specs.Sessions.{introduced, opened, up_opened, with_server, with_session}
use Rattle.gateway_state.specs.Settled.{IsSettled, IsUpToDate}
use Rattle.gateway_state.specs.Step.{consequences}
use Rattle.gateway_state.specs.Telling.{asked, outgoing, outgoing_upstream, told}
use Rattle.gateway_state.specs.Updates.{takes_updates, paused_in}
use Rattle.gateway_state.specs.Variables.{link_of}
use Rattle.gateway_state.proofs.SettledMeaning.{all_up_to_date}
use Rattle.gateway_state.proofs.SettledSteps.{settled_stays}
use Rattle.touched_rows.proofs.Connections.{no_more_room_added}
use Rattle.touched_rows.proofs.Nothing.{settled_connections, settled_sent}
use Rattle.touched_rows.proofs.Searched.{settled_servers}
use Rattle.touched_rows.proofs.Sessions.{settled_sessions}

-- ---- a session

-- the session of a channel that is served is found before a new one
led_first : (policy : Policy) (name real : List ℕ) (found other : Option Session) → is_real (lead_for policy name found) real ≡ true → option_or found other ≡ found
led_first policy name real None other leads = absurd (true≢false (sym leads))
led_first policy name real (Some row) other leads = refl

-- one that wasn't there didn't pause
active_first : (found other : Option Session) → not (paused_in (option_or found other)) ≡ true → not (paused_in found) ≡ true
active_first None other active = refl
active_first (Some row) other active = active

module _ (w : Gateway) (settled : IsSettled w) (new : Session) where
  abbrev rows : List Session
  rows = w.clients.sessions ++ new ∷ []

  found_first : (number : ℕ) → find (is_numbered number) rows ≡ option_or (find (is_numbered number) w.clients.sessions) (find (is_numbered number) (new ∷ []))
  found_first number = find-append (is_numbered number) w.clients.sessions (new ∷ [])

  leads : All (λ (c : Channel). lead_for w.policy c.asked (find (is_numbered c.session) rows) ≡ lead_in w c.session c.asked) w.clients.channels
  leads =
      All-weaker (IsUpToDate w) (λ (c : Channel). lead_for w.policy c.asked (find (is_numbered c.session) rows) ≡ lead_in w c.session c.asked)
      (λ c up.
      let leads_there = (and_parts (is_real (lead_in w c.session c.asked) c.real) (link_connected (link_of w c.real)) up.served).0 in
      ap (lead_for w.policy c.asked)
      (found_first c.session ∙ led_first w.policy c.asked c.real (find (is_numbered c.session) w.clients.sessions) (find (is_numbered c.session) (new ∷ [])) leads_there))
      w.clients.channels (all_up_to_date w settled)

  settled_session_added : IsSettled (record w { clients = record w.clients { sessions = rows } })
  settled_session_added =
      settled_sessions w settled rows leads
      (λ number open_to.
      let parts = and_parts (not (paused_in (find (is_numbered number) rows))) (takes_updates w number) open_to in
      and_from (not (paused_in (find (is_numbered number) w.clients.sessions))) (takes_updates w number)
      (active_first (find (is_numbered number) w.clients.sessions) (find (is_numbered number) (new ∷ []))
      (ap (λ (found : Option Session). not (paused_in found)) (sym (found_first number)) ∙ parts.0))
      parts.1)

settled_with_session : (w : Gateway) (number : ℕ) (host : List ℕ) → IsSettled w → IsSettled (with_session w number host)
settled_with_session w number host settled =
    let connections : List Connection = w.connections ++ fresh (ToSession number) ∷ [] in
    settled_session_added (record w { connections = connections }) (settled_connections w connections settled (no_more_room_added (ToSession number) w.connections))
    (record { number = number; peer = host; host = host; user = []; host_fixed = false; paused = false })

pub nothing_after_opening : (w : Gateway) (number : ℕ) (host : List ℕ) → IsSettled w → consequences (opened w number host) ≡ opened w number host
nothing_after_opening w number host settled = settled_stays (opened w number host) greeted
  where
    greeted : IsSettled (opened w number host)
    greeted =
        elim (is_open w (ToSession number) || nat_le w.limits.sessions (length w.clients.sessions))
        as (λ t. IsSettled (cond t w (told number replies.Version (with_session w number host))))
        [ true ↦ settled | false ↦ settled_sent (ToSession number) (outgoing replies.Version) (with_session w number host) (settled_with_session w number host settled) ]

-- ---- a server

settled_with_server : (w : Gateway) (number : ℕ) → IsSettled w → IsSettled (with_server w number)
settled_with_server w number settled =
    let connections : List Connection = w.connections ++ fresh (Upstream number) ∷ [] in
    settled_servers (w.upstream.servers ++ record { number = number; minor = 0 } ∷ []) (record w { connections = connections })
    (settled_connections w connections settled (no_more_room_added (Upstream number) w.connections))

settled_introduced : (number : ℕ) (w : Gateway) → IsSettled w → IsSettled (introduced number w)
settled_introduced number w settled =
    let first : Gateway = asked number requests.Version w in
    let second : Gateway = asked number (requests.ClientName w.config.client_name) first in
    settled_sent (Upstream number) (outgoing_upstream (requests.HostName w.config.host_name)) second
    (settled_sent (Upstream number) (outgoing_upstream (requests.ClientName w.config.client_name)) first
    (settled_sent (Upstream number) (outgoing_upstream requests.Version) w settled))

pub nothing_after_server_opening : (w : Gateway) (number : ℕ) → IsSettled w → consequences (up_opened w number) ≡ up_opened w number
nothing_after_server_opening w number settled = settled_stays (up_opened w number) made
  where
    made : IsSettled (up_opened w number)
    made =
        elim (is_open w (Upstream number) || nat_le w.limits.servers (length w.upstream.servers))
        as (λ t. IsSettled (cond t w (introduced number (with_server w number))))
        [ true ↦ settled | false ↦ settled_introduced number (with_server w number) (settled_with_server w number settled) ]
