-- What an event does by itself, and the direct reply to it.
use Rattle.std.specs.Prelude.{ℕ, List, [], is_some, if◌then◌else◌}
use Rattle.rows.specs.Rows.{change_first}
use Rattle.ca_message.specs.declared.to_server.ToServer.TheVariants as requests
use Rattle.rule_desk.specs.declared.policy.Policy.{Policy}
use Rattle.gateway_state.specs.declared.event.Dest.{Dest}
use Rattle.gateway_state.specs.declared.event.Dest.TheVariants as dests
use Rattle.gateway_state.specs.declared.event.Event.{Event}
use Rattle.gateway_state.specs.declared.event.Event.TheVariants.{Opened, Lost, Client, UpOpened, UpLost, Server, Found, Search, Sweep, Edit, Drain, Limit, Age, Probe, Seek}
use Rattle.gateway_state.specs.declared.limits.Limits.{Limits}
use Rattle.gateway_state.specs.Aged.{aged}
use Rattle.gateway_state.specs.Asked.{acts}
use Rattle.gateway_state.specs.Clients.{remembered, sought}
use Rattle.gateway_state.specs.Connections.{is_to, relieved}
use Rattle.gateway_state.specs.Gateway.{Gateway}
use Rattle.gateway_state.specs.Requests.{client_said}
use Rattle.gateway_state.specs.Resolution.{lead_of}
use Rattle.gateway_state.specs.Servers.{server_said, found}
use Rattle.gateway_state.specs.Sessions.{opened, lost, up_opened, up_lost}
use Rattle.gateway_state.specs.Telling.{asked}

-- all searches are forgotten
abbrev pub swept : Gateway → Gateway
swept w = record w { searches = [] }

-- another policy holds from now on
abbrev pub edited : Policy → Gateway → Gateway
edited policy w = record w { policy = policy }

-- somebody at a host looks for a name: that is remembered where the name leads somewhere
abbrev pub searched : List ℕ → List ℕ → Gateway → Gateway
searched host name w = if is_some (lead_of w.policy host name) then remembered host name w else w

-- the oldest messages of an outbox are taken
abbrev pub drained : Gateway → Dest → ℕ → Gateway
drained w dest count = record w { connections = change_first (is_to dest) (relieved count) w.connections }

-- other limits hold from now on
abbrev pub limited : Limits → Gateway → Gateway
limited limits w = record w { limits = limits }

-- what an event does to the rows that it names, and the direct reply. A message of a connection that
-- doesn't stand or is marked has no effect
abbrev pub direct_effect : Gateway → Event → Gateway
direct_effect w (Opened number host) = opened w number host
direct_effect w (Lost number) = lost w number
direct_effect w (Client number message) = if acts w (dests.Session number) then client_said w number message else w
direct_effect w (UpOpened number) = up_opened w number
direct_effect w (UpLost number) = up_lost w number
direct_effect w (Server number message) = if acts w (dests.Upstream number) then server_said w number message else w
direct_effect w (Found name number) = found w name number
direct_effect w (Search host name) = searched host name w
direct_effect w Sweep = swept w
direct_effect w (Edit policy) = edited policy w
direct_effect w (Drain dest count) = drained w dest count
direct_effect w (Limit limits) = limited limits w
direct_effect w Age = aged w
direct_effect w (Probe number) = asked number requests.Echo w
direct_effect w (Seek number cid name) = if acts w (dests.Session number) then sought number cid name w else w
