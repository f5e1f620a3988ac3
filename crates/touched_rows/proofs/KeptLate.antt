-- Whatever touches no read and no value leaves none to be kept, or to be owed.
use Rattle.std.proofs.Common.{◌≡◌, ℕ, List, true, false, cond, Option, Some, None, refl}
use Rattle.std.specs.Prelude.{is_some, nat_le}
use Rattle.std.specs.List.{find}
use Rattle.named_rows.specs.declared.channels.Channel.{Channel}
use Rattle.channel_table.specs.declared.sessions.Session.{Session as SessionRow}
use Rattle.named_rows.specs.declared.subs.ClientSub.{ClientSub}
use Rattle.channel_table.specs.ClientRows.{channel_count}
use Rattle.channel_table.specs.Sessions.{is_numbered}
use Rattle.link_table.specs.declared.links.LinkRow.{LinkRow}
use Rattle.link_table.specs.Links.{is_link}
use Rattle.pv_alias.specs.declared.lead.Lead.{Lead}
use Rattle.rule_desk.specs.declared.policy.Policy.{Policy}
use Rattle.gateway_state.specs.declared.event.Dest.{Dest}
use Rattle.gateway_state.specs.declared.event.Dest.TheVariants as dests
use Rattle.gateway_state.specs.declared.notice.SubVerdict.{SubVerdict}
use Rattle.gateway_state.specs.declared.notice.SubVerdict.TheVariants as subs
use Rattle.gateway_state.specs.declared.search.RememberedSearch.{RememberedSearch}
use Rattle.gateway_state.specs.Clients.{search_left_by}
use Rattle.gateway_state.specs.Gateway.{Gateway}
use Rattle.gateway_state.specs.Resolution.{lead_of}
use Rattle.gateway_state.specs.Rights.{channel_of, lead_in}
use Rattle.gateway_state.specs.Searches.{left_by_search}
use Rattle.gateway_state.specs.Subscribing.{is_on_sid, sub_of, sub_verdict}
use Rattle.gateway_state.specs.Updates.{takes_updates}
use Rattle.gateway_state.specs.Variables.{ConnectedVariable, connected, is_connected, is_creating}
use Rattle.touched_rows.specs.declared.touched.Touched.TheVariants.{Nothing, Session, Variable, Interest}
use Rattle.touched_rows.specs.Touches.{cancel_touches, cancel_touches_by, clear_touches, clear_touches_by, create_touches, create_touches_as, create_touches_over, created_touches, created_touches_over, drain_touches, gone_touches, gone_touches_over, left_touches, made_touches, rights_touches, rights_touches_over, search_left_for, searched_touches, seek_touches, seek_touches_as, sub_touches, sub_touches_by, with_touched}

module _ (x : Gateway) where
  made : (sub : ClientSub) (on : Option Channel) → with_touched (made_touches sub on) x ≡ x
  made sub None = refl
  made sub (Some c) = refl

  judged : (sub : ClientSub) (on : Option Channel) (verdict : SubVerdict) → with_touched (sub_touches_by sub on verdict) x ≡ x
  judged sub on subs.NoChannel = refl
  judged sub on subs.Ignored = refl
  judged sub on (subs.Refused cid code) = refl
  judged sub on subs.Accepted = made sub on

  pub sub_keeps_none : (w : Gateway) (sub : ClientSub) → with_touched (sub_touches w sub) x ≡ x
  sub_keeps_none w sub = judged sub (channel_of w sub.session sub.sid) (sub_verdict w sub)

  cancelled : (sid : ℕ) (sub : Option ClientSub) (on : Option Channel) → with_touched (cancel_touches_by sid sub on) x ≡ x
  cancelled sid sub None = refl
  cancelled sid sub (Some c) = elim (is_on_sid sid sub) as (λ t. with_touched (cond t (Interest c.real) Nothing) x ≡ x) [ true ↦ refl | false ↦ refl ]

  pub cancel_keeps_none : (w : Gateway) (number sid id : ℕ) → with_touched (cancel_touches w number sid id) x ≡ x
  cancel_keeps_none w number sid id = cancelled sid (sub_of w number id) (channel_of w number sid)

  -- by the search that goes
  left : (policy : Policy) (gone : Option RememberedSearch) → with_touched (left_touches policy gone) x ≡ x
  left policy None = refl
  left policy (Some row) = refl

  asked_over : (w : Gateway) (session : Option SessionRow) (name : List ℕ) (over : Option ConnectedVariable) → with_touched (create_touches_over w session name over) x ≡ x
  asked_over w session name None = left w.policy (search_left_for session name w)
  asked_over w session name (Some v) = left w.policy (search_left_by session name w)

  asked_for : (w : Gateway) (number : ℕ) (name : List ℕ) (lead : Option Lead) → with_touched (create_touches_as w number name lead) x ≡ x
  asked_for w number name None = refl
  asked_for w number name (Some lead) =
      let session : Option SessionRow = find (is_numbered number) w.clients.sessions in
      let over : Option ConnectedVariable = connected w lead.real in
      elim (nat_le w.limits.channels (channel_count number w.clients)) as (λ t. with_touched (cond t Nothing (create_touches_over w session name over)) x ≡ x)
      [ true ↦ refl | false ↦ asked_over w session name over ]

  pub create_keeps_none : (w : Gateway) (number : ℕ) (name : List ℕ) → with_touched (create_touches w number name) x ≡ x
  create_keeps_none w number name = asked_for w number name (lead_in w number name)

  sought : (w : Gateway) (number : ℕ) (name : List ℕ) (lead : Option Lead) → with_touched (seek_touches_as w number name lead) x ≡ x
  sought w number name None = refl
  sought w number name (Some lead) = left w.policy (search_left_for (find (is_numbered number) w.clients.sessions) name w)

  pub seek_keeps_none : (w : Gateway) (number : ℕ) (name : List ℕ) → with_touched (seek_touches w number name) x ≡ x
  seek_keeps_none w number name = sought w number name (lead_in w number name)

  pub search_keeps_none : (w : Gateway) (host name : List ℕ) → with_touched (searched_touches w host name) x ≡ x
  search_keeps_none w host name =
      let gone : Option RememberedSearch = left_by_search w.limits host name w.searches in
      elim (is_some (lead_of w.policy host name)) as (λ t. with_touched (cond t (left_touches w.policy gone) Nothing) x ≡ x) [ true ↦ left w.policy gone | false ↦ refl ]

  cleared : (on : Option Channel) → with_touched (clear_touches_by on) x ≡ x
  cleared None = refl
  cleared (Some c) = refl

  pub clear_keeps_none : (w : Gateway) (number sid : ℕ) → with_touched (clear_touches w number sid) x ≡ x
  clear_keeps_none w number sid = cleared (channel_of w number sid)

  created : (found : Option LinkRow) → with_touched (created_touches_over found) x ≡ x
  created None = refl
  created (Some link) = elim (is_creating link.state) as (λ t. with_touched (cond t (Interest link.name) Nothing) x ≡ x) [ true ↦ refl | false ↦ refl ]

  with_rights : (found : Option LinkRow) → with_touched (rights_touches_over found) x ≡ x
  with_rights None = refl
  with_rights (Some link) = elim (is_creating link.state) as (λ t. with_touched (cond t (Interest link.name) (Variable link.name)) x ≡ x) [ true ↦ refl | false ↦ refl ]

  gone : (found : Option LinkRow) → with_touched (gone_touches_over found) x ≡ x
  gone None = refl
  gone (Some link) = elim (is_connected link.state) as (λ t. with_touched (cond t (Variable link.name) Nothing) x ≡ x) [ true ↦ refl | false ↦ refl ]

  -- by what a server says of a channel
  pub made_keeps_none : (w : Gateway) (server cid : ℕ) → with_touched (created_touches w server cid) x ≡ x
  made_keeps_none w server cid = created (find (is_link server cid) w.upstream.links)

  pub rights_keep_none : (w : Gateway) (server cid : ℕ) → with_touched (rights_touches w server cid) x ≡ x
  rights_keep_none w server cid = with_rights (find (is_link server cid) w.upstream.links)

  pub gone_keeps_none : (w : Gateway) (server cid : ℕ) → with_touched (gone_touches w server cid) x ≡ x
  gone_keeps_none w server cid = gone (find (is_link server cid) w.upstream.links)

  pub drain_keeps_none : (w : Gateway) (dest : Dest) → with_touched (drain_touches w dest) x ≡ x
  drain_keeps_none w (dests.Session number) = elim (takes_updates w number) as (λ t. with_touched (cond t Nothing (Session number)) x ≡ x) [ true ↦ refl | false ↦ refl ]
  drain_keeps_none w (dests.Upstream number) = refl
