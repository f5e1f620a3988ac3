-- Links, values and wanted names, by variable.
use Rattle.std.specs.Prelude.{ℕ, List, [], ◌∷◌, ◌++◌, Bool, true, false, not, ◌&&◌, ◌||◌, map, filter, filter_map, bytes_eq, is_some, fold, if◌then◌else◌, Option, Some, None}
use Rattle.std.specs.List.{list_any, find}
use Rattle.std.specs.Ordering.{nat_cmp}
use Rattle.std.specs.Cmp.Lexicographic.{slice_cmp}
use Rattle.std.specs.declared.cmp.Ordering.TheVariants.{Less, Equal, Greater}
use Rattle.named_rows.specs.declared.channels.Channel.{Channel}
use Rattle.named_rows.specs.Channels.{is_on}
use Rattle.link_table.specs.declared.links.LinkRow.{LinkRow}
use Rattle.link_table.specs.declared.links.LinkState.{LinkState}
use Rattle.link_table.specs.declared.links.LinkState.TheVariants.{Creating, Connected, Unusable}
use Rattle.link_table.specs.Links.{is_named}
use Rattle.rule_desk.specs.declared.policy.Policy.{Policy}
use Rattle.gateway_state.specs.declared.reading.Native.{Native}
use Rattle.gateway_state.specs.declared.search.RememberedSearch.{RememberedSearch}
use Rattle.gateway_state.specs.CachedRows.{is_cached_elsewhere}
use Rattle.gateway_state.specs.Gateway.{Gateway}
use Rattle.gateway_state.specs.Quantities.{Sid}
use Rattle.gateway_state.specs.Resolution.{lead_of, real_in}
use Rattle.gateway_state.specs.Searches.{leads_to}

-- the link of a real name
abbrev pub link_of : Gateway → List ℕ → Option LinkRow
link_of w name = find (is_named name) w.upstream.links

abbrev pub is_linked : Gateway → List ℕ → Bool
is_linked w name = is_some (link_of w name)

abbrev pub is_connected : LinkState → Bool
is_connected Creating = false
is_connected (Connected sid dtype count) = true
is_connected Unusable = false

abbrev pub is_creating : LinkState → Bool
is_creating Creating = true
is_creating (Connected sid dtype count) = false
is_creating Unusable = false

-- a variable whose link is connected: the link, the server's ID of its channel, and the native type and count
pub record ConnectedVariable : Type 0 where
  pub link : LinkRow
  pub sid : Sid
  pub native : Native

-- the variable of a link in this state
abbrev pub connected_in : LinkRow → LinkState → Option ConnectedVariable
connected_in link Creating = None
connected_in link (Connected sid dtype count) =
    Some (record { link = link; sid = sid; native = record { dtype = dtype; count = count } })
connected_in link Unusable = None

-- the variable of a link, where there is one
abbrev pub connected_over : Option LinkRow → Option ConnectedVariable
connected_over None = None
connected_over (Some link) = connected_in link link.state

-- the variable of a real name; none where the name has no link, or its link is creating or unusable
abbrev pub connected : Gateway → List ℕ → Option ConnectedVariable
connected w name = connected_over (link_of w name)

-- a link's last messages go
abbrev pub without_cached : ℕ → Gateway → Gateway
without_cached cid w = record w { cache = filter (is_cached_elsewhere cid) w.cache }

-- a channel is open on the real name, or a remembered search leads to it
abbrev pub is_wanted : Gateway → List ℕ → Bool
is_wanted w name = list_any (is_on name) w.clients.channels || list_any (leads_to w.policy name) w.searches

-- wanted, and without a link
abbrev pub is_missing : Gateway → List ℕ → Bool
is_missing w name = is_wanted w name && not (is_linked w name)

-- the real names that channels are open on
abbrev pub channel_names : List Channel → List (List ℕ)
channel_names channels = map (λ (c : Channel). c.real) channels

abbrev pub search_name : Policy → RememberedSearch → Option (List ℕ)
search_name policy row = real_in (lead_of policy row.host row.name)

-- the real names that searches lead to
abbrev pub search_names : Policy → List RememberedSearch → List (List ℕ)
search_names policy searches = filter_map (search_name policy) searches

-- the name is one of these
abbrev pub is_among : List (List ℕ) → List ℕ → Bool
is_among names name = list_any (λ n. bytes_eq n name) names

-- the wanted names, as often as they are wanted
abbrev pub wanted_names : Gateway → List (List ℕ)
wanted_names w = channel_names w.clients.channels ++ search_names w.policy w.searches

-- names by rising bytes, with one more that isn't there yet
abbrev pub with_name : List ℕ → List (List ℕ) → List (List ℕ)
with_name name [] = name ∷ []
with_name name (first ∷ names) =
    elim (slice_cmp nat_cmp name first) [ Less ↦ name ∷ first ∷ names | Equal ↦ first ∷ names | Greater ↦ first ∷ with_name name names ]

abbrev pub is_unlinked : Gateway → List ℕ → Bool
is_unlinked w name = not (is_linked w name)

-- names by rising bytes, with one more where it has no link
abbrev pub with_unlinked : Gateway → List (List ℕ) → List ℕ → List (List ℕ)
with_unlinked w names name = if is_unlinked w name then with_name name names else names

-- the names to ask servers for: wanted, without a link, by rising bytes, each once
abbrev pub asks : Gateway → List (List ℕ)
asks w = fold (with_unlinked w) [] (wanted_names w)
