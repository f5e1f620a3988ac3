-- A name that a client seeks on its connection concerns nobody else, but that an older search may go for it.
use Rattle.std.proofs.Common.{◌≡◌, ℕ, List, Option, Some, None}
use Rattle.std.specs.List.{find}
use Rattle.channel_table.specs.declared.sessions.Session.{Session}
use Rattle.channel_table.specs.Sessions.{is_numbered}
use Rattle.pv_alias.specs.declared.lead.Lead.{Lead}
use Rattle.gateway_state.specs.declared.event.Dest.TheVariants.{Session as ToSession}
use Rattle.gateway_state.specs.Clients.{remembered_by, served_over, sought, sought_as, told_served}
use Rattle.gateway_state.specs.Gateway.{Gateway}
use Rattle.gateway_state.specs.Rights.{lead_in}
use Rattle.gateway_state.specs.Settled.{HasCidsApart, IsSettled}
use Rattle.gateway_state.specs.Step.{consequences}
use Rattle.gateway_state.specs.Telling.{sent}
use Rattle.gateway_state.specs.Variables.{ConnectedVariable, connected}
use Rattle.gateway_state.proofs.SettledSteps.{settled_stays}
use Rattle.touched_rows.specs.Touches.{consequences_of, left_touches, search_left_for, seek_touches, seek_touches_as}
use Rattle.touched_rows.proofs.Nothing.{settled_sent}
use Rattle.touched_rows.proofs.Searched.{told_after_remembering}

module _ (w : Gateway) (settled : IsSettled w) (order : HasCidsApart w) (number cid : ℕ) (name : List ℕ) where
  abbrev left_for : Option Session → Gateway → Gateway
  left_for session = consequences_of (left_touches w.policy (search_left_for session name w))

  unanswered : (session : Option Session) → consequences (remembered_by session name w) ≡ left_for session (remembered_by session name w)
  unanswered None = settled_stays w settled
  unanswered (Some row) = told_after_remembering w settled order row.host name

  settled_served : IsSettled (told_served number cid w)
  settled_served = settled_sent (ToSession number) _ w settled

  answered : (session : Option Session) → consequences (told_served number cid (remembered_by session name w)) ≡ left_for session (told_served number cid (remembered_by session name w))
  unfolding sent
  answered None = settled_stays (told_served number cid w) settled_served
  answered (Some row) = told_after_remembering (told_served number cid w) settled_served order row.host name

  over : (session : Option Session) (served : Option ConnectedVariable)
      → consequences (served_over number cid served (remembered_by session name w)) ≡ left_for session (served_over number cid served (remembered_by session name w))
  over session None = unanswered session
  over session (Some v) = answered session

  seeking_as : (lead : Option Lead) → consequences (sought_as number cid name lead w) ≡ consequences_of (seek_touches_as w number name lead) (sought_as number cid name lead w)
  seeking_as None = settled_stays w settled
  seeking_as (Some lead) = over (find (is_numbered number) w.clients.sessions) (connected w lead.real)

  pub told_after_seeking : consequences (sought number cid name w) ≡ consequences_of (seek_touches w number name) (sought number cid name w)
  told_after_seeking = seeking_as (lead_in w number name)
