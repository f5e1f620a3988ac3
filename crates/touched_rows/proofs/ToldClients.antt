-- What follows from a client's message is what it touches.
use Rattle.std.proofs.Common.{◌≡◌, ℕ, Bool, true, false, cond, eqb, ltb, ◌||◌, Option, Some, None, refl, subst, ◌∙◌}
use Rattle.std.specs.Prelude.{Ok, Err, Result}
use Rattle.std.proofs.lemmas.Bool.{and_parts, eqb-true}
use Rattle.ca_header.specs.declared.header.Header.{Header}
use Rattle.ca_header.specs.declared.header.Message.{Message}
use Rattle.ca_message.specs.declared.codes.TheConstants.{ECA_INTERNAL}
use Rattle.ca_message.specs.declared.commands.TheConstants.{CA_PROTO_CLIENT_NAME, CA_PROTO_CREATE_CHAN, CA_PROTO_EVENT_ADD, CA_PROTO_HOST_NAME}
use Rattle.ca_message.specs.declared.request.ClientRequest.{ClientRequest}
use Rattle.ca_message.specs.declared.request.ClientRequest.TheVariants as requests
use Rattle.ca_message.specs.declared.request.RequestFault.{RequestFault}
use Rattle.ca_message.specs.ClientRequest.{request_of}
use Rattle.ca_message.specs.declared.to_client.ToClient.{ToClient}
use Rattle.ca_message.specs.declared.to_client.ToClient.TheVariants as replies
use Rattle.named_rows.specs.declared.channels.Reach.{Reach}
use Rattle.named_rows.specs.declared.channels.Channel.{Channel}
use Rattle.named_rows.specs.declared.reads.WaitingRead.{WaitingRead}
use Rattle.named_rows.specs.declared.subs.ClientSub.{ClientSub}
use Rattle.named_rows.specs.Subs.{is_sub}
use Rattle.gateway_state.specs.declared.event.Dest.TheVariants.{Session as ToSession}
use Rattle.gateway_state.specs.declared.limits.TheConstants.{LOWEST_MINOR}
use Rattle.gateway_state.specs.declared.notice.ReadVerdict.{ReadVerdict}
use Rattle.gateway_state.specs.declared.notice.ReadVerdict.TheVariants as reads
use Rattle.gateway_state.specs.declared.notice.SubVerdict.{SubVerdict}
use Rattle.gateway_state.specs.declared.notice.SubVerdict.TheVariants as subs
use Rattle.gateway_state.specs.Answer.{cached_value, refusal}
use Rattle.gateway_state.specs.Clients.{accepted, channel_cleared, cleared, creation_failed, is_one_too_many, judged, no_channel, not_understood, read_asked, verdict_on, verdict_over, verdict_unless, versioned, with_host_fixed}
use Rattle.gateway_state.specs.Gateway.{Gateway}
use Rattle.pv_search.specs.declared.search.SearchRequest.{SearchRequest}
use Rattle.gateway_state.specs.Requests.{requested, said_as, unreadable}
use Rattle.gateway_state.specs.Rights.{channel_of, rights_of}
use Rattle.gateway_state.specs.Settled.{IsSettled}
use Rattle.gateway_state.specs.Step.{consequences}
use Rattle.gateway_state.specs.Subscribing.{cancelled_on, is_on_sid, new_sub, request_refused, short_subscription, sub_judged, sub_of, sub_verdict_on, sub_verdict_over, subscription_asked, subscription_cancelled, without_sub}
use Rattle.gateway_state.specs.Telling.{marked, outgoing, told}
use Rattle.gateway_state.specs.Variables.{ConnectedVariable, connected}
use Rattle.gateway_state.specs.Writing.{write_verdict}
use Rattle.gateway_state.proofs.SettledSteps.{settled_stays}
use Rattle.touched_rows.specs.declared.touched.Touched.TheVariants.{Nothing, Interest}
use Rattle.touched_rows.specs.Touched.{interest_told, one_read_told}
use Rattle.touched_rows.specs.Touches.{cancel_touches, cancel_touches_by, clear_touches, clear_touches_by, consequences_of, new_read, read_touches, read_touches_by, request_touches, said_touches, sub_touches, sub_touches_by}
use Rattle.touched_rows.proofs.Cleared.{told_after_clearing}
use Rattle.touched_rows.proofs.Created.{settled_creation_failed, told_after_channel_asked}
use Rattle.touched_rows.proofs.Nothing.{nothing_after_mark, nothing_after_reply, settled_sent}
use Rattle.touched_rows.proofs.ReadAsked.{told_after_read}
use Rattle.touched_rows.proofs.Renamed.{nothing_after_calling, nothing_after_renaming}
use Rattle.touched_rows.proofs.Sessions.{nothing_after_pausing, settled_host_fixed, told_after_resuming}
use Rattle.touched_rows.proofs.Sought.{told_after_seeking}
use Rattle.touched_rows.proofs.Subscribed.{told_after_subscribing}
use Rattle.touched_rows.proofs.Tidy.{IsTidy}
use Rattle.touched_rows.proofs.TouchedAlone.{found_passes}
use Rattle.touched_rows.proofs.Unsubscribed.{told_after_unsubscribing}
use Rattle.touched_rows.proofs.Written.{settled_no_channel, settled_notified, settled_written}

-- a read that is accepted leaves the rights last told
accepted_rights : (w : Gateway) (c : Channel) (dtype count : ℕ) (over : Option ConnectedVariable) (reach : Reach) (rights : ℕ) → verdict_over w c dtype count over ≡ reads.Accepted reach rights → c.rights_told ≡ rights
accepted_rights w c dtype count None reach rights is = absurd cc
accepted_rights w c dtype count (Some v) reach rights is = unless (refusal v.native (rights_of w c) dtype count) is
  where
    roomy : (reach_now : Reach) (full : Bool) (code : ℕ) → cond full (reads.Refused code) (reads.Accepted reach_now c.rights_told) ≡ reads.Accepted reach rights → c.rights_told ≡ rights
    roomy reach_now true code is = absurd cc
    roomy reach_now false code is = cc

    unless : (refused : Option ℕ) → verdict_unless w c v dtype count refused ≡ reads.Accepted reach rights → c.rights_told ≡ rights
    unless (Some code) is = absurd cc
    unless None is = roomy _ (is_one_too_many w c.session (cached_value w v.link.cid v.native.count dtype count)) _ is

module _ (w : Gateway) (tidy : IsTidy w) where
  abbrev IsAll : Gateway → Type 0
  IsAll x = consequences x ≡ x

  replied_all : (number : ℕ) (said : ToClient) → IsAll (told number said w)
  replied_all number said = nothing_after_reply (ToSession number) (outgoing said) w tidy.settled

  on_no_channel : (number : ℕ) (head : Header) → IsAll (no_channel w number head)
  on_no_channel number head = settled_stays (no_channel w number head) (settled_no_channel w tidy.settled number head)

  nothing_at_all : IsAll w
  nothing_at_all = settled_stays w tidy.settled

  told_version : (number minor : ℕ) → IsAll (versioned w number minor)
  told_version number minor =
      elim (ltb minor LOWEST_MINOR) as (λ t. IsAll (cond t (marked (ToSession number) w) w))
      [ true ↦ nothing_after_mark (ToSession number) w tidy.settled | false ↦ nothing_at_all ]

  told_sub : (sub : ClientSub) (head : Header) → sub.owed ≡ true → consequences (subscription_asked sub head w) ≡ consequences_of (sub_touches w sub) (subscription_asked sub head w)
  told_sub sub head owed = by (channel_of w sub.session sub.sid) refl
    where
      made : (c : Channel) → channel_of w sub.session sub.sid ≡ Some c → (verdict : SubVerdict)
          → consequences (sub_judged sub head verdict w) ≡ consequences_of (sub_touches_by sub (Some c) verdict) (sub_judged sub head verdict w)
      made c is subs.NoChannel = on_no_channel sub.session head
      made c is subs.Ignored = nothing_at_all
      made c is (subs.Refused cid code) = replied_all sub.session (replies.Error cid code head)
      made c is subs.Accepted = told_after_subscribing w tidy.settled tidy.links_apart sub owed c is

      by : (found : Option Channel) → channel_of w sub.session sub.sid ≡ found
          → consequences (sub_judged sub head (sub_verdict_on w sub found) w) ≡ consequences_of (sub_touches_by sub found (sub_verdict_on w sub found)) (sub_judged sub head (sub_verdict_on w sub found) w)
      by None is = on_no_channel sub.session head
      by (Some c) is = made c is (sub_verdict_over w sub c (connected w c.real))

  told_cancel : (number sid id dtype count : ℕ) (head : Header)
      → consequences (subscription_cancelled number sid id dtype count head w) ≡ consequences_of (cancel_touches w number sid id) (subscription_cancelled number sid id dtype count head w)
  told_cancel number sid id dtype count head = by (channel_of w number sid) refl
    where
      gone : Gateway
      gone = told number (replies.EventCancelled sid id dtype count) (without_sub number id w)

      kept : Channel → Gateway
      kept c = request_refused number c.cid ECA_INTERNAL head w

      on_sid : (c : Channel) → channel_of w number sid ≡ Some c → (sub : ClientSub) → sub_of w number id ≡ Some sub → (same : Bool) → eqb sub.sid sid ≡ same
          → consequences (cond same gone (kept c)) ≡ consequences_of (cond same (Interest c.real) Nothing) (cond same gone (kept c))
      on_sid c is sub found true same =
          let key = and_parts (eqb sub.session number) (eqb sub.id id) (found_passes (is_sub number id) w.clients.subs sub found) in
          let sessions = eqb-true sub.session number key.0 in
          let sids = eqb-true sub.sid sid same in
          told_after_unsubscribing w tidy.settled tidy.links_apart tidy.subs_apart number id sub found c ((λ i. channel_of w (sessions i) (sids i)) ∙ is) (ToSession number)
          (outgoing (replies.EventCancelled sid id dtype count))
      on_sid c is sub found false same = replied_all number (replies.Error c.cid ECA_INTERNAL head)

      among : (c : Channel) → channel_of w number sid ≡ Some c → (sub : Option ClientSub) → sub_of w number id ≡ sub
          → consequences (cond (is_on_sid sid sub) gone (kept c)) ≡ consequences_of (cond (is_on_sid sid sub) (Interest c.real) Nothing) (cond (is_on_sid sid sub) gone (kept c))
      among c is None found = replied_all number (replies.Error c.cid ECA_INTERNAL head)
      among c is (Some sub) found = on_sid c is sub found (eqb sub.sid sid) refl

      by : (found : Option Channel) → channel_of w number sid ≡ found
          → consequences (cancelled_on number sid id dtype count head found w) ≡ consequences_of (cancel_touches_by sid (sub_of w number id) found) (cancelled_on number sid id dtype count head found w)
      by None is = on_no_channel number head
      by (Some c) is = among c is (sub_of w number id) refl

  told_clear : (number sid cid : ℕ) (head : Header) → consequences (channel_cleared number sid cid head w) ≡ consequences_of (clear_touches w number sid) (channel_cleared number sid cid head w)
  told_clear number sid cid head = by (channel_of w number sid) refl
    where
      by : (found : Option Channel) → channel_of w number sid ≡ found → consequences (cleared number sid cid head found w) ≡ consequences_of (clear_touches_by found) (cleared number sid cid head found w)
      by None is = on_no_channel number head
      by (Some c) is = told_after_clearing w tidy.settled tidy.order tidy.links_apart number sid c is (ToSession number) (outgoing (replies.ClearChannel sid cid))

  told_read : (number sid ioid dtype count : ℕ) (head : Header)
      → consequences (read_asked number sid ioid dtype count head w) ≡ consequences_of (read_touches w (new_read number sid ioid dtype count)) (read_asked number sid ioid dtype count head w)
  told_read number sid ioid dtype count head = by (channel_of w number sid) refl
    where
      read : WaitingRead
      read = new_read number sid ioid dtype count

      over : (c : Channel) → channel_of w number sid ≡ Some c → (verdict : ReadVerdict) → verdict_over w c dtype count (connected w c.real) ≡ verdict
          → consequences (judged number sid ioid dtype count head verdict w) ≡ consequences_of (read_touches_by read (Some c) verdict) (judged number sid ioid dtype count head verdict w)
      over c is reads.NoChannel verdict = on_no_channel number head
      over c is reads.Ignored verdict = nothing_at_all
      over c is (reads.Refused code) verdict = replied_all number (replies.ReadNotifyRefused ioid dtype count code)
      over c is (reads.Accepted reach rights) verdict =
          subst (λ (r : ℕ). consequences (accepted number sid ioid dtype count reach r w) ≡ one_read_told read (interest_told c.real (accepted number sid ioid dtype count reach r w)))
          (accepted_rights w c dtype count (connected w c.real) reach rights verdict)
          (told_after_read w tidy.settled tidy.links_apart number sid ioid dtype count reach c is)

      by : (found : Option Channel) → channel_of w number sid ≡ found
          → consequences (judged number sid ioid dtype count head (verdict_on w dtype count found) w)
          ≡ consequences_of (read_touches_by read found (verdict_on w dtype count found)) (judged number sid ioid dtype count head (verdict_on w dtype count found) w)
      by None is = on_no_channel number head
      by (Some c) is = over c is (verdict_over w c dtype count (connected w c.real)) refl

  settled_unreadable : (number : ℕ) (head : Header) → IsSettled (unreadable w number head)
  settled_unreadable number head =
      elim (eqb head.command CA_PROTO_CREATE_CHAN)
      as (λ t. IsSettled (cond t (creation_failed number head.p1 (with_host_fixed number w))
      (cond (eqb head.command CA_PROTO_CLIENT_NAME || eqb head.command CA_PROTO_HOST_NAME) w
      (cond (eqb head.command CA_PROTO_EVENT_ADD) (short_subscription w number head) (not_understood w number head))))) [
        | true ↦ settled_creation_failed number head.p1 (with_host_fixed number w) (settled_host_fixed number w tidy.settled)
        | false ↦
            elim (eqb head.command CA_PROTO_CLIENT_NAME || eqb head.command CA_PROTO_HOST_NAME)
            as (λ t. IsSettled (cond t w (cond (eqb head.command CA_PROTO_EVENT_ADD) (short_subscription w number head) (not_understood w number head)))) [
              | true ↦ tidy.settled
              | false ↦
                  elim (eqb head.command CA_PROTO_EVENT_ADD) as (λ t. IsSettled (cond t (short_subscription w number head) (not_understood w number head))) [
                    | true ↦ settled_sent (ToSession number) _ w tidy.settled
                    | false ↦ settled_sent (ToSession number) _ w tidy.settled
                  ]
            ]
      ]

  told_request : (number : ℕ) (message : Message) (asked : Result ClientRequest RequestFault)
      → consequences (requested w number message asked) ≡ consequences_of (request_touches w number asked) (requested w number message asked)
  told_request number message (Ok (requests.Version minor)) = told_version number minor
  told_request number message (Ok (requests.EventAdd add)) =
      told_sub (new_sub number add.sid add.id add.dtype add.count add.mask) message.head refl
  told_request number message (Ok (requests.EventCancel cancel)) = told_cancel number cancel.sid cancel.id cancel.dtype cancel.count message.head
  told_request number message (Ok (requests.Write write)) =
      settled_stays _ (settled_written w tidy.settled number message.head (write_verdict w number write.sid write.dtype write.count write.value))
  told_request number message (Ok requests.EventsOff) = nothing_after_pausing w number tidy.settled
  told_request number message (Ok requests.EventsOn) = told_after_resuming w number tidy.settled
  told_request number message (Ok (requests.ClearChannel clear)) = told_clear number clear.sid clear.cid message.head
  told_request number message (Ok (requests.ReadNotify read)) = told_read number read.sid read.ioid read.dtype read.count message.head
  told_request number message (Ok (requests.CreateChannel create)) =
      told_after_channel_asked w tidy.settled tidy.order.links tidy.subs_on tidy.reads_on number create.cid create.name
  told_request number message (Ok (requests.WriteNotify write)) =
      settled_stays _
      (settled_notified w tidy.settled number write.sid write.ioid write.dtype write.count message.head (write_verdict w number write.sid write.dtype write.count write.value))
  told_request number message (Ok (requests.ClientName name)) = nothing_after_calling w tidy.settled tidy.hosts_fixed number name
  told_request number message (Ok (requests.HostName host)) = nothing_after_renaming w tidy.settled tidy.hosts_fixed number host
  told_request number message (Ok requests.Echo) = replied_all number (replies.Echo message)
  told_request number message (Err fault) = settled_stays (unreadable w number message.head) (settled_unreadable number message.head)

  pub told_client : (number : ℕ) (message : Message) (search : Option SearchRequest)
      → consequences (said_as w number message search) ≡ consequences_of (said_touches w number message search) (said_as w number message search)
  told_client number message None = told_request number message (request_of message.head message.payload)
  told_client number message (Some search) = told_after_seeking w tidy.settled tidy.order.links number search.cid search.name
