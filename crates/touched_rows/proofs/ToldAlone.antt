-- In every state that a run reaches, what follows from an event is what it touches.
use Rattle.std.proofs.Common.{◌≡◌, true, false, cond, refl}
use Rattle.ca_message.specs.declared.to_server.ToServer.TheVariants as requests
use Rattle.ca_message.specs.ServerReply.{reply_of}
use Rattle.gateway_state.specs.declared.event.Dest.TheVariants.{Session as ToSession, Upstream}
use Rattle.gateway_state.specs.declared.event.Event.{Event}
use Rattle.gateway_state.specs.declared.event.Event.TheVariants.{Opened, Lost, Client, UpOpened, UpLost, Server, Found, Search, Sweep, Edit, Drain, Limit, Age, Probe, Seek}
use Rattle.gateway_state.specs.Asked.{acts}
use Rattle.gateway_state.specs.Direct.{direct_effect}
use Rattle.gateway_state.specs.Gateway.{Gateway}
use Rattle.gateway_state.specs.Reached.{IsReached}
use Rattle.gateway_state.specs.Clients.{sought}
use Rattle.gateway_state.specs.Requests.{client_said, search_in}
use Rattle.gateway_state.specs.Servers.{server_said}
use Rattle.gateway_state.specs.Step.{consequences, step}
use Rattle.gateway_state.specs.Telling.{outgoing_upstream}
use Rattle.gateway_state.proofs.SettledSteps.{settled_stays}
use Rattle.touched_rows.specs.declared.touched.Touched.TheVariants.{Nothing}
use Rattle.touched_rows.specs.Touches.{client_touches, event_touches, consequences_of, reply_touches, seek_touches}
use Rattle.touched_rows.proofs.Aged.{told_after_age}
use Rattle.touched_rows.proofs.Drained.{nothing_after_server_drain, told_drain}
use Rattle.touched_rows.proofs.Found.{nothing_after_found}
use Rattle.touched_rows.proofs.Lost.{told_after_losing}
use Rattle.touched_rows.proofs.Nothing.{nothing_after_reply}
use Rattle.touched_rows.proofs.Opened.{nothing_after_opening, nothing_after_server_opening}
use Rattle.touched_rows.proofs.Searched.{told_after_search}
use Rattle.touched_rows.proofs.Sought.{told_after_seeking}
use Rattle.touched_rows.proofs.Swept.{told_after_sweep}
use Rattle.touched_rows.proofs.ServerLost.{told_after_losing_server}
use Rattle.touched_rows.proofs.Tidy.{IsTidy, reached_tidy}
use Rattle.touched_rows.proofs.ToldClients.{told_client}
use Rattle.touched_rows.proofs.ToldServers.{told_reply}

told_event : (w : Gateway) (event : Event) → IsTidy w → consequences (direct_effect w event) ≡ consequences_of (event_touches w event) (direct_effect w event)
told_event w (Opened number host) tidy = nothing_after_opening w number host tidy.settled
told_event w (Lost number) tidy = told_after_losing w tidy.settled tidy.order number
told_event w (Client number message) tidy =
    elim (acts w (ToSession number))
    as (λ t. consequences (cond t (client_said w number message) w)
    ≡ consequences_of (cond t (client_touches w number message) Nothing) (cond t (client_said w number message) w))
    [ true ↦ told_client w tidy number message (search_in w message) | false ↦ settled_stays w tidy.settled ]
told_event w (UpOpened number) tidy = nothing_after_server_opening w number tidy.settled
told_event w (UpLost number) tidy = told_after_losing_server w tidy number
told_event w (Server number message) tidy =
    elim (acts w (Upstream number))
    as (λ t. consequences (cond t (server_said w number message) w)
    ≡ consequences_of (cond t (reply_touches w number (reply_of message.head message.payload)) Nothing) (cond t (server_said w number message) w))
    [ true ↦ told_reply w tidy number (reply_of message.head message.payload) | false ↦ settled_stays w tidy.settled ]
told_event w (Found name number) tidy = nothing_after_found w name number tidy.settled
told_event w (Search host name) tidy = told_after_search host name w tidy.settled tidy.order.links
told_event w Sweep tidy = told_after_sweep w tidy.settled tidy.order.links
told_event w (Edit policy) tidy = refl
told_event w (Drain (ToSession number) count) tidy = told_drain w number count tidy.settled
told_event w (Drain (Upstream number) count) tidy = nothing_after_server_drain w number count tidy.settled
told_event w (Limit limits) tidy = refl
told_event w Age tidy = told_after_age w tidy.settled tidy.order tidy.links_apart
told_event w (Probe number) tidy = nothing_after_reply (Upstream number) (outgoing_upstream requests.Echo) w tidy.settled
told_event w (Seek number cid name) tidy =
    elim (acts w (ToSession number))
    as (λ t. consequences (cond t (sought number cid name w) w) ≡ consequences_of (cond t (seek_touches w number name) Nothing) (cond t (sought number cid name w) w))
    [ true ↦ told_after_seeking w tidy.settled tidy.order.links number cid name | false ↦ settled_stays w tidy.settled ]

pub told_alone : (w : Gateway) (event : Event) → IsReached w → consequences (direct_effect w event) ≡ consequences_of (event_touches w event) (direct_effect w event)
told_alone w event reached = told_event w event (reached_tidy w reached)

pub step_alone : (w : Gateway) (event : Event) → IsReached w → step w event ≡ consequences_of (event_touches w event) (direct_effect w event)
unfolding step
step_alone w event reached = told_alone w event reached
