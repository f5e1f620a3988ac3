-- An event looks at as many rows of clients as it does by itself and what follows from it does.
use Rattle.std.proofs.Common.{◌≡◌, ◌≤◌, ℕ, ◌+◌, ◌*◌, List, Bool, true, false, cond, eqb, leb, Option, Some, None, length, refl, ap, arith}
use Rattle.std.specs.Prelude.{Ok, Err, Result, filter, is_some}
use Rattle.std.specs.List.{find}
use Rattle.ca_message.specs.declared.codes.TheConstants.{ECA_NORMAL}
use Rattle.ca_message.specs.declared.reply.ReplyFault.{ReplyFault}
use Rattle.ca_message.specs.declared.reply.ServerReply.{ServerReply}
use Rattle.ca_message.specs.declared.reply.ServerReply.TheVariants as says
use Rattle.ca_message.specs.declared.request.ClientRequest.{ClientRequest}
use Rattle.ca_message.specs.declared.request.ClientRequest.TheVariants as requests
use Rattle.ca_message.specs.declared.request.RequestFault.{RequestFault}
use Rattle.ca_header.specs.declared.header.Message.{Message}
use Rattle.ca_message.specs.ClientRequest.{request_of}
use Rattle.ca_message.specs.ServerReply.{reply_of}
use Rattle.named_rows.specs.declared.channels.Channel.{Channel}
use Rattle.named_rows.specs.declared.reads.WaitingRead.{WaitingRead}
use Rattle.channel_table.specs.declared.sessions.Session.{Session as SessionRow}
use Rattle.named_rows.specs.declared.subs.ClientSub.{ClientSub}
use Rattle.named_rows.specs.Channels.{is_on}
use Rattle.channel_table.specs.ClientRows.{ClientRows, channel_count, is_read_for, is_sub_to}
use Rattle.channel_table.specs.Sessions.{is_numbered}
use Rattle.gateway_state.specs.declared.notice.ReadVerdict.{ReadVerdict}
use Rattle.gateway_state.specs.declared.notice.ReadVerdict.TheVariants as reads
use Rattle.gateway_state.specs.declared.notice.SubVerdict.{SubVerdict}
use Rattle.gateway_state.specs.declared.notice.SubVerdict.TheVariants as subs
use Rattle.gateway_state.specs.declared.search.RememberedSearch.{RememberedSearch as SearchRow}
use Rattle.gateway_state.specs.Clients.{read_verdict, search_left_by, sought}
use Rattle.pv_alias.specs.declared.lead.Lead.{Lead}
use Rattle.pv_search.specs.declared.search.SearchRequest.{SearchRequest}
use Rattle.gateway_state.specs.Requests.{client_said, search_in}
use Rattle.gateway_state.specs.Rights.{channel_of, lead_in}
use Rattle.gateway_state.specs.Subscribing.{is_on_sid, new_sub, sub_of, sub_verdict}
use Rattle.gateway_core.specs.Looks.{direct_looks, event_looks, request_looks, update_looks}
use Rattle.consequences.specs.Looks.{looks_after}
use Rattle.gateway_rows.specs.Own.{IsWithin, channels_on, own_over, reads_on, subs_on}
use Rattle.gateway_rows.proofs.OwnStays.{reads_on_owed, subs_on_owed}
use Rattle.gateway_state.specs.declared.event.Dest.TheVariants.{Session, Upstream}
use Rattle.gateway_state.specs.declared.event.Event.{Event}
use Rattle.gateway_state.specs.declared.event.Event.TheVariants.{Age, Opened, Limit, Lost, Client, Probe, UpOpened, UpLost, Server, Found, Search, Sweep, Edit, Drain, Seek}
use Rattle.gateway_state.specs.Answer.{native_in}
use Rattle.gateway_state.specs.Asked.{acts}
use Rattle.gateway_state.specs.Direct.{direct_effect, searched}
use Rattle.gateway_state.specs.Gateway.{Gateway}
use Rattle.gateway_state.specs.Resolution.{lead_of}
use Rattle.gateway_state.specs.Searches.{left_by_search}
use Rattle.gateway_state.specs.Variables.{ConnectedVariable, connected, is_connected, is_creating}
use Rattle.gateway_state.specs.Servers.{channel_dropped, concerned_owed, concerns, fails_without, gone_for, held_with, is_heard, reads_failed, replied, rights_given, rights_said, server_said, subject_of, updated_by, updated_link, updated_under, with_held}
use Rattle.gateway_state.specs.Updates.{concerned}
use Rattle.link_table.specs.declared.links.LinkRow.{LinkRow}
use Rattle.link_table.specs.declared.links.LinkState.{LinkState}
use Rattle.link_table.specs.declared.links.LinkState.TheVariants.{Creating, Connected, Unusable}
use Rattle.link_table.specs.declared.links.Subject.{Subject}
use Rattle.link_table.specs.declared.links.Subscription.{Subscription}
use Rattle.link_table.specs.Links.{has_subscription, is_link, sub_at}
use Rattle.direct_effect.specs.Looks.{failing_looks, reply_looks}
use Rattle.rule_desk.specs.declared.policy.Policy.{Policy}
use Rattle.touched_rows.specs.declared.touched.Touched.{Touched}
use Rattle.touched_rows.specs.declared.touched.Touched.TheVariants.{Interest, Nothing, Value, Variable}
use Rattle.touched_rows.specs.Concern.{concern_of}
use Rattle.touched_rows.specs.Touches.{cancel_touches_by, clear_touches_by, client_touches, create_touches, create_touches_as, create_touches_over, created_touches_over, event_touches, gone_touches_over, left_touches, new_read, read_touches_by, reply_touches, request_touches, rights_touches_over, said_touches, search_left_for, seek_touches, seek_touches_as, sub_touches_by, update_touches_over, update_touches_under, value_touches}

-- how many rows a table has of a variable
abbrev channels_in : ClientRows → List ℕ → ℕ
channels_in rows name = length (filter (is_on name) rows.channels)

abbrev subs_in : ClientRows → List ℕ → ℕ
subs_in rows name = length (filter (is_sub_to rows name) rows.subs)

abbrev reads_in : ClientRows → List ℕ → ℕ
reads_in rows name = length (filter (is_read_for rows name) rows.reads)

-- nothing followed
quiet : (before direct after channels subs reads : ℕ) → direct ≤ before + reads → after ≤ direct + 0 → after ≤ before + 6 * (channels + subs + reads)
quiet before direct after channels subs reads first rest = omega (arith, first, rest)

-- it was told to those on the variable
told : (before direct after channels subs reads subs-then reads-then : ℕ) → direct ≤ before + 0
    → after ≤ direct + (6 * subs-then + 2 * reads-then) → subs-then ≡ subs → reads-then ≡ reads → after ≤ before + 6 * (channels + subs + reads)
told before direct after channels subs reads subs-then reads-then first rest as-many-subs as-many-reads = omega (arith, first, rest, as-many-subs, as-many-reads)

-- ---- what follows from a request is told of few rows

module _ (then : Gateway) (direct after : ℕ) where
  few : after ≤ direct + 0 → after ≤ direct + 4
  few rest = omega (arith, rest)

  made_within : (sub : ClientSub) (on : Option Channel) (verdict : SubVerdict) → IsWithin (looks_after (sub_touches_by sub on verdict) then) direct after → after ≤ direct + 4
  made_within sub on subs.NoChannel = few
  made_within sub on subs.Ignored = few
  made_within sub on (subs.Refused cid code) = few
  made_within sub None subs.Accepted = few
  made_within sub (Some c) subs.Accepted = λ rest. rest

  read_within : (read : WaitingRead) (on : Option Channel) (verdict : ReadVerdict) → IsWithin (looks_after (read_touches_by read on verdict) then) direct after → after ≤ direct + 4
  read_within read on reads.NoChannel = few
  read_within read on reads.Ignored = few
  read_within read on (reads.Refused code) = few
  read_within read None (reads.Accepted reach rights) = few
  read_within read (Some c) (reads.Accepted reach rights) = λ rest. omega (arith, rest)

  cancel_within : (sid : ℕ) (sub : Option ClientSub) (on : Option Channel) → IsWithin (looks_after (cancel_touches_by sid sub on) then) direct after → after ≤ direct + 4
  cancel_within sid sub None = few
  cancel_within sid sub (Some c) =
      elim (is_on_sid sid sub) as (λ t. IsWithin (looks_after (cond t (Interest c.real) Nothing) then) direct after → after ≤ direct + 4) [ true ↦ few | false ↦ few ]

  clear_within : (on : Option Channel) → IsWithin (looks_after (clear_touches_by on) then) direct after → after ≤ direct + 4
  clear_within None = few
  clear_within (Some c) = few

  -- a search that goes
  left_within : (policy : Policy) (left : Option SearchRow) → IsWithin (looks_after (left_touches policy left) then) direct after → after ≤ direct + 0
  left_within policy None = λ rest. rest
  left_within policy (Some row) = λ rest. rest

  create_over_within : (w : Gateway) (session : Option SessionRow) (name : List ℕ) (over : Option ConnectedVariable)
      → IsWithin (looks_after (create_touches_over w session name over) then) direct after → after ≤ direct + 0
  create_over_within w session name None = left_within w.policy (search_left_for session name w)
  create_over_within w session name (Some v) = left_within w.policy (search_left_by session name w)

  create_within : (w : Gateway) (number : ℕ) (name : List ℕ) → IsWithin (looks_after (create_touches w number name) then) direct after → after ≤ direct + 0
  create_within w number name =
      elim (lead_in w number name) as (λ on. IsWithin (looks_after (create_touches_as w number name on) then) direct after → after ≤ direct + 0) [
        | None ↦ λ rest. rest
        | Some lead ↦
            let session : Option SessionRow = find (is_numbered number) w.clients.sessions in
            elim (leb w.limits.channels (channel_count number w.clients))
            as (λ t. IsWithin (looks_after (cond t Nothing (create_touches_over w session name (connected w lead.real))) then) direct after → after ≤ direct + 0)
            [ true ↦ λ rest. rest | false ↦ create_over_within w session name (connected w lead.real) ]
      ]

  seek_as_within : (w : Gateway) (number : ℕ) (name : List ℕ) (lead : Option Lead)
      → IsWithin (looks_after (seek_touches_as w number name lead) then) direct after → after ≤ direct + 0
  seek_as_within w number name None = λ rest. rest
  seek_as_within w number name (Some lead) = left_within w.policy (search_left_for (find (is_numbered number) w.clients.sessions) name w)

  seek_within : (w : Gateway) (number : ℕ) (name : List ℕ) → IsWithin (looks_after (seek_touches w number name) then) direct after → after ≤ direct + 0
  seek_within w number name = seek_as_within w number name (lead_in w number name)

  all_within : (before : ℕ) → direct ≤ before + 4 → after ≤ direct + 4 → after ≤ before + 8
  all_within before first rest = omega (arith, first, rest)

  request_within : (w : Gateway) (before number : ℕ) (request : Result ClientRequest RequestFault) → direct ≤ before + 4
      → IsWithin (looks_after (request_touches w number request) then) direct after → IsWithin (request_looks request) before after
  request_within w before number (Ok (requests.Version minor)) first rest = all_within before first (few rest)
  request_within w before number (Ok (requests.EventAdd add)) first rest =
      let sub : ClientSub = new_sub number add.sid add.id add.dtype add.count add.mask in
      all_within before first (made_within sub (channel_of w number add.sid) (sub_verdict w sub) rest)
  request_within w before number (Ok (requests.EventCancel cancel)) first rest =
      all_within before first (cancel_within cancel.sid (sub_of w number cancel.id) (channel_of w number cancel.sid) rest)
  request_within w before number (Ok (requests.Write write)) first rest = all_within before first (few rest)
  request_within w before number (Ok requests.EventsOff) first rest = all_within before first (few rest)
  request_within w before number (Ok requests.EventsOn) first rest = tt
  request_within w before number (Ok (requests.ClearChannel clear)) first rest = all_within before first (clear_within (channel_of w number clear.sid) rest)
  request_within w before number (Ok (requests.ReadNotify read)) first rest =
      all_within before first
      (read_within (new_read number read.sid read.ioid read.dtype read.count) (channel_of w number read.sid) (read_verdict w number read.sid read.dtype read.count) rest)
  request_within w before number (Ok (requests.CreateChannel create)) first rest =
      all_within before first (few (create_within w number create.name rest))
  request_within w before number (Ok (requests.WriteNotify write)) first rest = all_within before first (few rest)
  request_within w before number (Ok (requests.ClientName name)) first rest = all_within before first (few rest)
  request_within w before number (Ok (requests.HostName host)) first rest = all_within before first (few rest)
  request_within w before number (Ok requests.Echo) first rest = all_within before first (few rest)
  request_within w before number (Err fault) first rest = all_within before first (few rest)

  -- a client that isn't heard
  unheard_within : (before : ℕ) (request : Result ClientRequest RequestFault) → direct ≤ before + 4 → after ≤ direct + 0 → IsWithin (request_looks request) before after
  unheard_within before (Ok (requests.Version minor)) first rest = all_within before first (few rest)
  unheard_within before (Ok (requests.EventAdd add)) first rest = all_within before first (few rest)
  unheard_within before (Ok (requests.EventCancel cancel)) first rest = all_within before first (few rest)
  unheard_within before (Ok (requests.Write write)) first rest = all_within before first (few rest)
  unheard_within before (Ok requests.EventsOff) first rest = all_within before first (few rest)
  unheard_within before (Ok requests.EventsOn) first rest = tt
  unheard_within before (Ok (requests.ClearChannel clear)) first rest = all_within before first (few rest)
  unheard_within before (Ok (requests.ReadNotify read)) first rest = all_within before first (few rest)
  unheard_within before (Ok (requests.CreateChannel create)) first rest = all_within before first (few rest)
  unheard_within before (Ok (requests.WriteNotify write)) first rest = all_within before first (few rest)
  unheard_within before (Ok (requests.ClientName name)) first rest = all_within before first (few rest)
  unheard_within before (Ok (requests.HostName host)) first rest = all_within before first (few rest)
  unheard_within before (Ok requests.Echo) first rest = all_within before first (few rest)
  unheard_within before (Err fault) first rest = all_within before first (few rest)

-- ---- servers' messages

module _ (w : Gateway) (before direct after : ℕ) where
  -- six looks at most at each row of a link's variable
  abbrev IsWithinOwn : LinkRow → Type 0
  IsWithinOwn link = after ≤ before + 6 * own_over w (Some link)

  none_told : (link : LinkRow) → direct ≤ before + 0 → after ≤ direct + 0 → IsWithinOwn link
  none_told link first rest = quiet before direct after (channels_on w link.name) (subs_on w link.name) (reads_on w link.name) (omega (arith, first)) rest

  looked_over : (subject : Subject) (dtype count : ℕ) (payload : List ℕ) (link : LinkRow) (state : LinkState) (sub : Option Subscription) → direct ≤ before + 0
      → IsWithin (looks_after (value_touches w subject link state sub dtype count payload) (updated_link subject link state sub dtype count payload w)) direct after → IsWithinOwn link
  looked_over subject dtype count payload link (Connected sid native native_count) (Some sub) first =
      let passes : ClientSub → Bool = concerns subject w link.cid dtype count payload in
      let touched : Touched = Value link.name (concern_of subject w link.cid dtype count payload) in
      let then : Gateway = with_held link.server link.cid (held_with subject dtype count payload sub.count) (concerned_owed link.name passes w) in
      elim (is_heard subject native sub.count dtype count payload) as (λ t. IsWithin (looks_after (cond t touched Nothing) (cond t then w)) direct after → IsWithinOwn link) [
        | true ↦
            λ rest. told before direct after (channels_on w link.name) (subs_on w link.name) (reads_on w link.name) (subs_on then link.name) (reads_on then link.name) first rest
            (subs_on_owed link.name (concerned w link.name passes) w) (reads_on_owed link.name (concerned w link.name passes) w)
        | false ↦ none_told link first
      ]
  looked_over subject dtype count payload link (Connected sid native native_count) None first = none_told link first
  looked_over subject dtype count payload link Creating sub first = none_told link first
  looked_over subject dtype count payload link Unusable sub first = none_told link first

  looked_under : (subject : Subject) (status dtype count : ℕ) (payload : List ℕ) (link : LinkRow) → direct ≤ before + failing_looks w status (Some link)
      → IsWithin (looks_after (update_touches_under w subject status dtype count payload link) (updated_under subject status dtype count payload link w)) direct after → IsWithinOwn link
  looked_under subject status dtype count payload link =
      let sub : Option Subscription = sub_at subject link.subscriptions in
      let touched : Touched = value_touches w subject link link.state sub dtype count payload in
      let then : Gateway = updated_link subject link link.state sub dtype count payload w in
      let failed : Gateway = reads_failed (fails_without subject (native_in link.state)) w link.name in
      elim (eqb status ECA_NORMAL)
      as (λ t. direct ≤ before + cond t 0 (reads_on w link.name) → IsWithin (looks_after (cond t touched Nothing) (cond t then failed)) direct after → IsWithinOwn link) [
        | true ↦ looked_over subject dtype count payload link link.state sub
        | false ↦ λ first rest. quiet before direct after (channels_on w link.name) (subs_on w link.name) (reads_on w link.name) first rest
      ]

  looked_by : (id status dtype count : ℕ) (payload : List ℕ) (found : Option LinkRow) → direct ≤ before + failing_looks w status found
      → IsWithin (looks_after (update_touches_over w id status dtype count payload found) (updated_by id status dtype count payload found w)) direct after
      → after ≤ before + 6 * own_over w found
  looked_by id status dtype count payload None first = λ rest. quiet before direct after 0 0 0 first rest
  looked_by id status dtype count payload (Some link) first = looked_under (subject_of id link) status dtype count payload link first

  -- nothing followed, as the server isn't heard
  unheard : (status : ℕ) (found : Option LinkRow) → direct ≤ before + failing_looks w status found → after ≤ direct + 0 → after ≤ before + 6 * own_over w found
  unheard status None = quiet before direct after 0 0 0
  unheard status (Some link) =
      elim (eqb status ECA_NORMAL) as (λ t. direct ≤ before + cond t 0 (reads_on w link.name) → after ≤ direct + 0 → IsWithinOwn link)
      [ true ↦ none_told link | false ↦ quiet before direct after (channels_on w link.name) (subs_on w link.name) (reads_on w link.name) ]

  none : direct ≤ before + 0 → after ≤ direct + 0 → after ≤ before + 0
  none first rest = omega (arith, first, rest)

  -- a channel that a server made
  made : (then : Gateway) (found : Option LinkRow) → direct ≤ before + 0 → IsWithin (looks_after (created_touches_over found) then) direct after → after ≤ before + 0
  made then None first = none first
  made then (Some link) first =
      elim (is_creating link.state) as (λ t. IsWithin (looks_after (cond t (Interest link.name) Nothing) then) direct after → after ≤ before + 0) [ true ↦ none first | false ↦ none first ]

  -- rights that came, and a channel that a server dropped, are told to all on the variable, which has the rows that it had
  none_of : (own : ℕ) → direct ≤ before + 0 → after ≤ direct + 0 → after ≤ before + 9 * own
  none_of own first rest = omega (arith, first, rest)

  all_of : (then : Gateway) (link : LinkRow) → then.clients ≡ w.clients → direct ≤ before + 0 → IsWithin (looks_after (Variable link.name) then) direct after → after ≤ before + 9 * own_over w (Some link)
  all_of then link same first rest =
      omega
      (arith, first, rest, ap (λ (rows : ClientRows). channels_in rows link.name) same, ap (λ (rows : ClientRows). subs_in rows link.name) same, ap (λ (rows : ClientRows). reads_in rows link.name) same)

  righted : (then : Gateway) (found : Option LinkRow) → then.clients ≡ w.clients → direct ≤ before + 0 → IsWithin (looks_after (rights_touches_over found) then) direct after → after ≤ before + 9 * own_over w found
  righted then None same first = none_of 0 first
  righted then (Some link) same first =
      elim (is_creating link.state) as (λ t. IsWithin (looks_after (cond t (Interest link.name) (Variable link.name)) then) direct after → after ≤ before + 9 * own_over w (Some link))
      [ true ↦ none_of (own_over w (Some link)) first | false ↦ all_of then link same first ]

  dropped : (then : Gateway) (found : Option LinkRow) → then.clients ≡ w.clients → direct ≤ before + 0 → IsWithin (looks_after (gone_touches_over found) then) direct after → after ≤ before + 9 * own_over w found
  dropped then None same first = none_of 0 first
  dropped then (Some link) same first =
      elim (is_connected link.state) as (λ t. IsWithin (looks_after (cond t (Variable link.name) Nothing) then) direct after → after ≤ before + 9 * own_over w (Some link))
      [ true ↦ all_of then link same first | false ↦ none_of (own_over w (Some link)) first ]

  rights_keep : (server cid rights : ℕ) (found : Option LinkRow) → (rights_given server cid rights found w).clients ≡ w.clients
  rights_keep server cid rights None = refl
  rights_keep server cid rights (Some link) = refl

  drops_keep : (server cid : ℕ) (found : Option LinkRow) → (gone_for server cid found w).clients ≡ w.clients
  drops_keep server cid None = refl
  drops_keep server cid (Some link) = refl

  looked_for : (server : ℕ) (reply : Result ServerReply ReplyFault) → IsWithin (reply_looks w server reply) before direct
      → IsWithin (looks_after (reply_touches w server reply) (replied w server reply)) direct after → IsWithin (update_looks w server reply) before after
  looked_for server (Ok (says.Version minor)) first rest = none first rest
  looked_for server (Ok (says.EventAdd id status dtype count value)) first rest = looked_by id status dtype count value (find (has_subscription server id) w.upstream.links) first rest
  looked_for server (Ok (says.CreateChannel cid sid dtype count)) first rest = made (replied w server (Ok (says.CreateChannel cid sid dtype count))) (find (is_link server cid) w.upstream.links) first rest
  looked_for server (Ok (says.WriteNotify ioid status)) first rest = none first rest
  looked_for server (Ok (says.AccessRights cid rights)) first rest =
      let found : Option LinkRow = find (is_link server cid) w.upstream.links in
      righted (rights_said w server cid rights) found (rights_keep server cid rights found) first rest
  looked_for server (Ok (says.CreateChannelFail cid)) first rest = none first rest
  looked_for server (Ok (says.ServerDisconnect cid)) first rest =
      let found : Option LinkRow = find (is_link server cid) w.upstream.links in
      dropped (channel_dropped w server cid) found (drops_keep server cid found) first rest
  looked_for server (Err fault) first rest = none first rest

  looked_quietly : (server : ℕ) (reply : Result ServerReply ReplyFault) → IsWithin (reply_looks w server reply) before direct
      → after ≤ direct + 0 → IsWithin (update_looks w server reply) before after
  looked_quietly server (Ok (says.Version minor)) first rest = none first rest
  looked_quietly server (Ok (says.EventAdd id status dtype count value)) first rest = unheard status (find (has_subscription server id) w.upstream.links) first rest
  looked_quietly server (Ok (says.CreateChannel cid sid dtype count)) first rest = none first rest
  looked_quietly server (Ok (says.WriteNotify ioid status)) first rest = none first rest
  looked_quietly server (Ok (says.AccessRights cid rights)) first rest = none_of (own_over w (find (is_link server cid) w.upstream.links)) first rest
  looked_quietly server (Ok (says.CreateChannelFail cid)) first rest = none first rest
  looked_quietly server (Ok (says.ServerDisconnect cid)) first rest = none_of (own_over w (find (is_link server cid) w.upstream.links)) first rest
  looked_quietly server (Err fault) first rest = none first rest

-- what a client says, which may be a search
client_within : (w : Gateway) (number : ℕ) (message : Message) (before direct after : ℕ) → direct ≤ before + 4 → (search : Option SearchRequest)
    → IsWithin (looks_after (said_touches w number message search) (client_said w number message)) direct after → IsWithin (request_looks (request_of message.head message.payload)) before after
client_within w number message before direct after first None =
    request_within (client_said w number message) direct after w before number (request_of message.head message.payload) first
client_within w number message before direct after first (Some search) =
    λ rest. unheard_within w direct after before (request_of message.head message.payload) first (seek_within (client_said w number message) direct after w number search.name rest)

few_of : (before direct after : ℕ) → direct ≤ before + 4 → after ≤ direct + 0 → after ≤ before + 4
few_of before direct after first rest = omega (arith, first, rest)

-- by itself, and for what follows
pub looked_in_all : (w : Gateway) (event : Event) (before direct after : ℕ) → IsWithin (direct_looks w event) before direct
    → IsWithin (looks_after (event_touches w event) (direct_effect w event)) direct after → IsWithin (event_looks w event) before after
looked_in_all w (Opened number host) before direct after first = none w before direct after first
looked_in_all w (Lost number) before direct after first = λ rest. omega (arith, first, rest)
looked_in_all w (Client number message) before direct after first =
    let request = request_of message.head message.payload in
    elim (acts w (Session number))
    as (λ t. IsWithin (looks_after (cond t (client_touches w number message) Nothing) (cond t (client_said w number message) w)) direct after → IsWithin (request_looks request) before after)
    [ true ↦ client_within w number message before direct after first (search_in w message) | false ↦ unheard_within w direct after before request first ]
looked_in_all w (UpOpened number) before direct after first = none w before direct after first
looked_in_all w (UpLost number) before direct after first = λ rest. tt
looked_in_all w (Server number message) before direct after first =
    elim (acts w (Upstream number))
    as (λ t. IsWithin (looks_after (cond t (reply_touches w number (reply_of message.head message.payload)) Nothing) (cond t (server_said w number message) w)) direct after
    → IsWithin (update_looks w number (reply_of message.head message.payload)) before after)
    [ true ↦ looked_for w before direct after number (reply_of message.head message.payload) first | false ↦ looked_quietly w before direct after number (reply_of message.head message.payload) first ]
looked_in_all w (Found name number) before direct after first = none w before direct after first
looked_in_all w (Search host name) before direct after first =
    let left : Touched = left_touches w.policy (left_by_search w.limits host name w.searches) in
    let then : Gateway = searched host name w in
    elim (is_some (lead_of w.policy host name)) as (λ t. IsWithin (looks_after (cond t left Nothing) then) direct after → after ≤ before + 0)
    [ true ↦ λ rest. none w before direct after first (left_within then direct after w.policy (left_by_search w.limits host name w.searches) rest) | false ↦ none w before direct after first ]
looked_in_all w Sweep before direct after first = none w before direct after first
looked_in_all w (Edit policy) before direct after first = λ rest. tt
looked_in_all w (Drain dest count) before direct after first = λ rest. tt
looked_in_all w (Limit limits) before direct after first = λ rest. tt
looked_in_all w Age before direct after first = λ rest. omega (arith, first, rest)
looked_in_all w (Probe number) before direct after first = none w before direct after first
looked_in_all w (Seek number cid name) before direct after first =
    elim (acts w (Session number))
    as (λ t. IsWithin (looks_after (cond t (seek_touches w number name) Nothing) (cond t (sought number cid name w) w)) direct after → after ≤ before + 4)
    [ true ↦ λ rest. few_of before direct after first (seek_within (sought number cid name w) direct after w number name rest) | false ↦ λ rest. few_of before direct after first rest ]
