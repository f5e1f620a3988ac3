-- What follows from a server's message is what it touches.
use Rattle.std.proofs.Common.{◌≡◌, ℕ, List, true, false, cond, eqb, Option, Some, None, refl, Bool}
use Rattle.std.specs.Prelude.{Ok, Err, Result}
use Rattle.std.specs.List.{find}
use Rattle.ca_message.specs.declared.codes.TheConstants.{ECA_NORMAL}
use Rattle.ca_message.specs.declared.reply.ReplyFault.{ReplyFault}
use Rattle.ca_message.specs.declared.reply.ServerReply.{ServerReply}
use Rattle.ca_message.specs.declared.reply.ServerReply.TheVariants as says
use Rattle.named_rows.specs.declared.reads.WaitingRead.{WaitingRead}
use Rattle.named_rows.specs.declared.subs.ClientSub.{ClientSub}
use Rattle.link_table.specs.declared.links.Subject.{Subject}
use Rattle.link_table.specs.declared.links.LinkRow.{LinkRow}
use Rattle.link_table.specs.declared.links.LinkState.{LinkState}
use Rattle.link_table.specs.declared.links.LinkState.TheVariants.{Creating, Connected, Unusable}
use Rattle.link_table.specs.declared.links.Subscription.{Subscription}
use Rattle.link_table.specs.Links.{has_subscription, is_link, sub_at}
use Rattle.link_table.specs.Writes.{is_write}
use Rattle.value_cache.specs.Held.{Held}
use Rattle.gateway_state.specs.Answer.{native_in}
use Rattle.gateway_state.specs.CachedRows.{put_row}
use Rattle.gateway_state.specs.Gateway.{Gateway}
use Rattle.gateway_state.specs.Connections.{given, is_to, most_for}
use Rattle.gateway_state.specs.Servers.{answered_creating, channel_made, channel_returned, concerned_owed, concerns, created_for, fails_without, held_with, is_heard, is_usable, reads_failed, replied, rights_given, rights_said, subject_of, updated, updated_by, updated_link, updated_under, with_held, with_link_state}
use Rattle.gateway_state.specs.Step.{consequences}
use Rattle.gateway_state.specs.Telling.{outgoing_upstream, sent}
use Rattle.gateway_state.specs.Variables.{is_creating}
use Rattle.gateway_state.specs.declared.event.Dest.TheVariants.{Upstream}
use Rattle.fanout.specs.declared.outbox.Out.{Out}
use Rattle.rows.specs.Rows.{change_first}
use Rattle.ca_message.specs.declared.to_server.ToServer.TheVariants as requests
use Rattle.gateway_state.proofs.SettledSteps.{settled_stays}
use Rattle.touched_rows.specs.declared.touched.Touched.{Touched}
use Rattle.touched_rows.specs.declared.touched.Touched.TheVariants.{Nothing, Variable, Value, Interest}
use Rattle.touched_rows.specs.Concern.{concern_of}
use Rattle.touched_rows.specs.Touches.{created_touches, created_touches_over, consequences_of, reply_touches, rights_touches, rights_touches_over, update_touches, update_touches_over, update_touches_under, value_touches}
use Rattle.touched_rows.specs.Touched.{interest_told}
use Rattle.touched_rows.proofs.Connecting.{told_after_connecting}
use Rattle.touched_rows.proofs.Connections.{no_more_room_given}
use Rattle.touched_rows.proofs.Failed.{nothing_after_refusal}
use Rattle.touched_rows.proofs.HeldRows.{put_beside}
use Rattle.touched_rows.proofs.LinkChanged.{told_after_dropping, told_after_rights}
use Rattle.touched_rows.proofs.Nothing.{nothing_after_failure, nothing_after_reply}
use Rattle.touched_rows.proofs.Searched.{nothing_after_server_version}
use Rattle.touched_rows.proofs.Tidy.{IsTidy}
use Rattle.touched_rows.proofs.Updated.{told_after_update}
use Rattle.touched_rows.proofs.Written.{settled_ended}

module _ (w : Gateway) (tidy : IsTidy w) where
  told_update : (server id status dtype count : ℕ) (payload : List ℕ)
      → consequences (updated w server id status dtype count payload) ≡ consequences_of (update_touches w server id status dtype count payload) (updated w server id status dtype count payload)
  told_update server id status dtype count payload = by (find (has_subscription server id) w.upstream.links) refl
    where
      value : (link : LinkRow) → find (has_subscription server id) w.upstream.links ≡ Some link → (subject : Subject) (state : LinkState) (sub : Option Subscription)
          → consequences (updated_link subject link state sub dtype count payload w)
          ≡ consequences_of (value_touches w subject link state sub dtype count payload) (updated_link subject link state sub dtype count payload w)
      value link is subject (Connected sid native native_count) (Some sub) =
          let change : Held → Held = held_with subject dtype count payload sub.count in
          let passes : ClientSub → Bool = concerns subject w link.cid dtype count payload in
          let touched : Touched = Value link.name (concern_of subject w link.cid dtype count payload) in
          let after : Gateway = with_held link.server link.cid change (concerned_owed link.name passes w) in
          elim (is_heard subject native sub.count dtype count payload) as (λ t. consequences (cond t after w) ≡ consequences_of (cond t touched Nothing) (cond t after w)) [
            | true ↦
                told_after_update w tidy.settled tidy.order tidy.subs_apart server id link is (put_row link.server link.cid change)
                (λ other differ. put_beside link.server link.cid change other w.cache differ) passes
            | false ↦ settled_stays w tidy.settled
          ]
      value link is subject (Connected sid native native_count) None = settled_stays w tidy.settled
      value link is subject Creating sub = settled_stays w tidy.settled
      value link is subject Unusable sub = settled_stays w tidy.settled

      under : (link : LinkRow) → find (has_subscription server id) w.upstream.links ≡ Some link → (subject : Subject)
          → consequences (updated_under subject status dtype count payload link w) ≡ consequences_of (update_touches_under w subject status dtype count payload link) (updated_under subject status dtype count payload link w)
      under link is subject =
          let sub : Option Subscription = sub_at subject link.subscriptions in
          let fails : WaitingRead → Bool = fails_without subject (native_in link.state) in
          let after : Gateway = updated_link subject link link.state sub dtype count payload w in
          elim (eqb status ECA_NORMAL)
          as (λ t. consequences (cond t after (reads_failed fails w link.name))
          ≡ consequences_of (cond t (value_touches w subject link link.state sub dtype count payload) Nothing) (cond t after (reads_failed fails w link.name)))
          [ true ↦ value link is subject link.state sub | false ↦ nothing_after_failure fails w link.name tidy.settled ]

      by : (found : Option LinkRow) → find (has_subscription server id) w.upstream.links ≡ found
          → consequences (updated_by id status dtype count payload found w) ≡ consequences_of (update_touches_over w id status dtype count payload found) (updated_by id status dtype count payload found w)
      by None is = settled_stays w tidy.settled
      by (Some link) is = under link is (subject_of id link)

  -- ---- channels that were asked for

  told_changed : (server cid : ℕ) (link : LinkRow) → find (is_link server cid) w.upstream.links ≡ Some link → is_creating link.state ≡ true → (state : LinkState) (rights : ℕ)
      → consequences (with_link_state server cid state rights w) ≡ interest_told link.name (with_link_state server cid state rights w)
  told_changed server cid link found creating state rights =
      told_after_connecting w tidy.settled tidy.order tidy.links_apart server cid link found creating state rights w.connections (λ limits number taking. taking)

  told_returned : (server cid sid : ℕ) (link : LinkRow) → find (is_link server cid) w.upstream.links ≡ Some link → is_creating link.state ≡ true
      → consequences (channel_returned server sid cid (with_link_state server cid Unusable link.rights w))
      ≡ interest_told link.name (channel_returned server sid cid (with_link_state server cid Unusable link.rights w))
  unfolding sent
  told_returned server cid sid link found creating =
      let said : Out = outgoing_upstream (requests.ClearChannel sid cid) in
      told_after_connecting w tidy.settled tidy.order tidy.links_apart server cid link found creating Unusable link.rights (change_first (is_to (Upstream server)) (given (most_for w.limits (Upstream server)) said) w.connections)
      (no_more_room_given (most_for w.limits (Upstream server)) (Upstream server) said w.connections)

  told_made : (server cid sid dtype count : ℕ) → consequences (channel_made w server cid sid dtype count) ≡ consequences_of (created_touches w server cid) (channel_made w server cid sid dtype count)
  told_made server cid sid dtype count = by (find (is_link server cid) w.upstream.links) refl
    where
      answered : (link : LinkRow) → find (is_link server cid) w.upstream.links ≡ Some link → (creating : Bool) → is_creating link.state ≡ creating
          → consequences (cond creating (answered_creating server cid sid dtype count link w) w)
          ≡ consequences_of (cond creating (Interest link.name) Nothing) (cond creating (answered_creating server cid sid dtype count link w) w)
      answered link is true creating =
          elim (is_usable dtype count) as (λ t. consequences (cond t (with_link_state server cid (Connected sid dtype count) link.rights w)
          (channel_returned server sid cid (with_link_state server cid Unusable link.rights w)))
          ≡ interest_told link.name (cond t (with_link_state server cid (Connected sid dtype count) link.rights w)
          (channel_returned server sid cid (with_link_state server cid Unusable link.rights w))))
          [ true ↦ told_changed server cid link is creating (Connected sid dtype count) link.rights | false ↦ told_returned server cid sid link is creating ]
      answered link is false creating = settled_stays w tidy.settled

      by : (found : Option LinkRow) → find (is_link server cid) w.upstream.links ≡ found
          → consequences (created_for server cid sid dtype count found w) ≡ consequences_of (created_touches_over found) (created_for server cid sid dtype count found w)
      by None is = nothing_after_reply (Upstream server) (outgoing_upstream (requests.ClearChannel sid cid)) w tidy.settled
      by (Some link) is = answered link is (is_creating link.state) refl

  told_rights : (server cid rights : ℕ) → consequences (rights_said w server cid rights) ≡ consequences_of (rights_touches w server cid) (rights_said w server cid rights)
  told_rights server cid rights = by (find (is_link server cid) w.upstream.links) refl
    where
      over : (link : LinkRow) → find (is_link server cid) w.upstream.links ≡ Some link → (creating : Bool) → is_creating link.state ≡ creating
          → consequences (with_link_state server cid link.state rights w) ≡ consequences_of (cond creating (Interest link.name) (Variable link.name)) (with_link_state server cid link.state rights w)
      over link is true creating = told_changed server cid link is creating link.state rights
      over link is false creating = told_after_rights w tidy server cid link is rights

      by : (found : Option LinkRow) → find (is_link server cid) w.upstream.links ≡ found
          → consequences (rights_given server cid rights found w) ≡ consequences_of (rights_touches_over found) (rights_given server cid rights found w)
      by None is = settled_stays w tidy.settled
      by (Some link) is = over link is (is_creating link.state) refl

  pub told_reply : (server : ℕ) (reply : Result ServerReply ReplyFault) → consequences (replied w server reply) ≡ consequences_of (reply_touches w server reply) (replied w server reply)
  told_reply server (Ok (says.Version minor)) = nothing_after_server_version w server minor tidy.settled
  told_reply server (Ok (says.EventAdd id status dtype count value)) = told_update server id status dtype count value
  told_reply server (Ok (says.CreateChannel cid sid dtype count)) = told_made server cid sid dtype count
  told_reply server (Ok (says.WriteNotify ioid status)) = settled_stays _ (settled_ended w tidy.settled server ioid status (find (is_write server ioid) w.upstream.writes))
  told_reply server (Ok (says.AccessRights cid rights)) = told_rights server cid rights
  told_reply server (Ok (says.CreateChannelFail cid)) = nothing_after_refusal w tidy.settled tidy.order tidy.links_apart server cid
  told_reply server (Ok (says.ServerDisconnect cid)) = told_after_dropping w tidy server cid
  told_reply server (Err fault) = settled_stays w tidy.settled
