-- A variable that a server has concerns no client until its link is connected.
use Rattle.std.proofs.Common.{◌≡◌, ℕ, List, [], ◌∷◌, ◌++◌, Bool, true, false, cond, ltb, not, ◌&&◌, Option, Some, None, refl, sym, ◌∙◌}
use Rattle.std.specs.Prelude.{length}
use Rattle.std.specs.List.{All, find}
use Rattle.std.specs.Option.{option_or}
use Rattle.std.proofs.lemmas.Bool.{and_parts, true≢false}
use Rattle.std.proofs.lemmas.Grind.{flat_map-append}
use Rattle.std.proofs.lemmas.List.Elements.{All-weaker}
use Rattle.std.proofs.lemmas.List.Folds.{find-append}
use Rattle.rows.specs.Rows.{change_first}
use Rattle.ca_message.specs.declared.to_server.ToServer.TheVariants as requests
use Rattle.link_table.specs.declared.links.LinkRow.{LinkRow}
use Rattle.link_table.specs.declared.links.LinkState.TheVariants.{Creating}
use Rattle.link_table.specs.declared.counter.Counter.TheVariants.{Cid as CountsCids}
use Rattle.link_table.specs.Counters.{given_out}
use Rattle.link_table.specs.LinkRows.{Counters}
use Rattle.link_table.specs.Links.{is_named, new_link}
use Rattle.gateway_state.specs.declared.connections.Connection.{Connection}
use Rattle.gateway_state.specs.declared.event.Dest.TheVariants.{Upstream}
use Rattle.gateway_state.specs.Asked.{acts}
use Rattle.gateway_state.specs.Connections.{given, is_to, most_for}
use Rattle.gateway_state.specs.Gateway.{Gateway}
use Rattle.gateway_state.specs.Notices.{link_notices_of}
use Rattle.gateway_state.specs.Rights.{lead_in, link_connected}
use Rattle.gateway_state.specs.Resolution.{is_real}
use Rattle.gateway_state.specs.Servers.{found, linked, next_cid}
use Rattle.gateway_state.specs.Settled.{IsSettled, IsUpToDate}
use Rattle.gateway_state.specs.Step.{consequences}
use Rattle.gateway_state.specs.Telling.{outgoing_upstream, sent}
use Rattle.gateway_state.specs.Variables.{is_linked, is_missing, is_wanted, link_of}
use Rattle.gateway_state.proofs.SettledMeaning.{all_up_to_date}
use Rattle.gateway_state.proofs.SettledSteps.{settled_stays}
use Rattle.touched_rows.proofs.Connections.{HasNoMoreRoom, no_more_room_given}
use Rattle.touched_rows.proofs.LinksQuiet.{links_quiet}
use Rattle.touched_rows.proofs.Tellings.{less_connections}
use Rattle.touched_rows.proofs.UnseenRows.{IsUnseen, changed, asks_unseen, settled_unseen}

-- the link of a channel is found before a new one
found_first : (over other : Option LinkRow) → link_connected over ≡ true → option_or over other ≡ over
found_first None other connected = absurd (true≢false (sym connected))
found_first (Some link) other connected = refl

module _ (w : Gateway) (settled : IsSettled w) (new : LinkRow) (state : new.state ≡ Creating) (wanted : is_wanted w new.name ≡ true) (connections : List Connection)
    (room : HasNoMoreRoom w.connections connections) (counters : Counters) where
  abbrev links : List LinkRow
  links = w.upstream.links ++ new ∷ []

  unseen : All (IsUnseen w w.clients.sessions links) w.clients.channels
  unseen =
      All-weaker (IsUpToDate w) (IsUnseen w w.clients.sessions links)
      (λ c up.
      let connected = (and_parts (is_real (lead_in w c.session c.asked) c.real) (link_connected (link_of w c.real)) up.served).1 in
      (refl, find-append (is_named c.real) w.upstream.links (new ∷ []) ∙ found_first (link_of w c.real) (find (is_named c.real) (new ∷ [])) connected))
      w.clients.channels (all_up_to_date w settled)

  abbrev x : Gateway
  x = changed w settled connections w.clients.sessions links counters unseen

  new_quiet : link_notices_of x new ≡ []
  new_quiet = rw (state, wanted) refl

  settled_link_added : IsSettled x
  settled_link_added =
      settled_unseen w settled connections w.clients.sessions links counters unseen (less_connections w connections room).sessions
      (flat_map-append (link_notices_of x) w.upstream.links (new ∷ [])
      ∙ (λ i. links_quiet w x (asks_unseen w settled connections w.clients.sessions links counters unseen) (λ name there. there) settled i ++ (new_quiet i ++ [])))

settled_linked : (w : Gateway) → IsSettled w → (server : ℕ) (name : List ℕ) → is_wanted w name ≡ true → IsSettled (linked w server name)
unfolding sent
settled_linked w settled server name wanted =
    let new : LinkRow = new_link server (next_cid w) name in
    settled_link_added w settled new refl wanted
    (change_first (is_to (Upstream server)) (given (most_for w.limits (Upstream server)) (outgoing_upstream (requests.CreateChannel (next_cid w) name))) w.connections)
    (no_more_room_given (most_for w.limits (Upstream server)) (Upstream server) (outgoing_upstream (requests.CreateChannel (next_cid w) name)) w.connections)
    (given_out CountsCids w.limits.reuses_numbers (next_cid w) w.upstream.counters)

pub nothing_after_found : (w : Gateway) (name : List ℕ) (server : ℕ) → IsSettled w → consequences (found w name server) ≡ found w name server
nothing_after_found w name server settled = settled_stays (found w name server) (by (is_missing w name && acts w (Upstream server) && ltb (length w.upstream.links) w.limits.links) refl)
  where
    by : (is : Bool) → (is_missing w name && acts w (Upstream server) && ltb (length w.upstream.links) w.limits.links) ≡ is → IsSettled (cond is (linked w server name) w)
    by true e =
        let some = and_parts (is_missing w name && acts w (Upstream server)) (ltb (length w.upstream.links) w.limits.links) e in
        let missing = and_parts (is_missing w name) (acts w (Upstream server)) some.0 in
        settled_linked w settled server name (and_parts (is_wanted w name) (not (is_linked w name)) missing.0).0
    by false e = settled
