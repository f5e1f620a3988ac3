-- What clients say and do keeps what each change of rows keeps.
use Rattle.std.proofs.Common.{◌≡◌, ℕ, List, [], ◌∷◌, ◌++◌, length, Bool, true, false, cond, eqb, leb, ltb, ◌||◌, ◌&&◌, Option, Some, None, Ok, Err, Result, refl}
use Rattle.std.specs.Prelude.{is_some}
use Rattle.std.proofs.lemmas.Bool.{eq-eqb}
use Rattle.std.specs.List.{find, list_any}
use Rattle.rows.specs.Rows.{change_first}
use Rattle.ca_header.specs.declared.header.Header.{Header}
use Rattle.ca_header.specs.declared.header.Message.{Message}
use Rattle.ca_message.specs.declared.codes.TheConstants.{ECA_INTERNAL, ECA_BADCHID, ECA_NORDACCESS, ECA_NOWTACCESS, ECA_PUTFAIL}
use Rattle.ca_message.specs.declared.commands.TheConstants.{NO_CHANNEL, CA_PROTO_CREATE_CHAN, CA_PROTO_CLIENT_NAME, CA_PROTO_EVENT_ADD, CA_PROTO_HOST_NAME}
use Rattle.ca_message.specs.declared.request.ClientRequest.{ClientRequest}
use Rattle.ca_message.specs.declared.request.ClientRequest.TheVariants as requests
use Rattle.ca_message.specs.declared.request.RequestFault.{RequestFault}
use Rattle.ca_message.specs.declared.to_client.ToClient.TheVariants as replies
use Rattle.ca_message.specs.declared.to_server.ToServer.TheVariants as to_servers
use Rattle.ca_message.specs.declared.written.WriteFault.{WriteFault}
use Rattle.ca_message.specs.Written.{Written, written}
use Rattle.ca_message.specs.ClientRequest.{request_of}
use Rattle.named_rows.specs.declared.channels.Channel.{Channel}
use Rattle.named_rows.specs.declared.channels.Reach.{Reach}
use Rattle.named_rows.specs.declared.reads.WaitingRead.{WaitingRead}
use Rattle.channel_table.specs.declared.sessions.Session.{Session}
use Rattle.named_rows.specs.declared.subs.ClientSub.{ClientSub}
use Rattle.named_rows.specs.Channels.{is_channel}
use Rattle.channel_table.specs.ClientRows.{channel_count}
use Rattle.channel_table.specs.Sessions.{is_numbered}
use Rattle.link_table.specs.declared.links.LinkRow.{LinkRow}
use Rattle.link_table.specs.declared.links.LinkState.{LinkState}
use Rattle.link_table.specs.declared.links.LinkState.TheVariants.{Creating, Connected, Unusable}
use Rattle.link_table.specs.declared.writes.WaitingWrite.{WaitingWrite}
use Rattle.link_table.specs.LinkRows.{write_count}
use Rattle.gateway_state.specs.declared.event.Dest.TheVariants.{Session as ToSession}
use Rattle.channel_table.specs.ClientRows.{has_sub}
use Rattle.named_rows.specs.Subs.{is_sub}
use Rattle.gateway_state.specs.declared.limits.TheConstants.{LOWEST_MINOR}
use Rattle.gateway_state.specs.declared.notice.ReadVerdict.{ReadVerdict}
use Rattle.gateway_state.specs.declared.notice.ReadVerdict.TheVariants.{NoChannel, Ignored, Refused, Accepted}
use Rattle.gateway_state.specs.declared.notice.SubVerdict.{SubVerdict}
use Rattle.gateway_state.specs.declared.notice.SubVerdict.TheVariants as SubVerdicts
use Rattle.gateway_state.specs.declared.notice.WriteVerdict.{WriteVerdict}
use Rattle.gateway_state.specs.declared.notice.WriteVerdict.TheVariants as WriteVerdicts
use Rattle.gateway_state.specs.declared.reading.Native.{Native}
use Rattle.gateway_state.specs.Answer.{value_refusal}
use Rattle.pv_alias.specs.declared.lead.Lead.{Lead}
use Rattle.rule_desk.specs.declared.policy.Policy.{Policy}
use Rattle.gateway_state.specs.declared.connections.Connection.{Connection}
use Rattle.gateway_state.specs.Asked.{is_open}
use Rattle.gateway_state.specs.Clients.{channel_asked, cleared, created, created_as, created_over, creation_failed, judged, next_sid, no_channel, not_connected, read_verdict, remembered, remembered_by, rights_on, served_over, sought, sought_as, versioned, with_channel, with_host_fixed, without_channel, verdict_on, called, fixed, renamed, search_left_by, was_given_out}
use Rattle.gateway_state.specs.Connections.{fresh, is_to}
use Rattle.gateway_state.specs.Gateway.{Gateway}
use Rattle.pv_search.specs.declared.search.SearchRequest.{SearchRequest}
use Rattle.gateway_state.specs.Requests.{client_said, requested, said_as, search_in, unreadable}
use Rattle.gateway_state.specs.Rights.{channel_of, lead_for, lead_in, rights_of}
use Rattle.gateway_state.specs.Searches.{with_search, without_search}
use Rattle.gateway_state.specs.Sessions.{opened, with_session}
use Rattle.gateway_state.specs.Settled.{is_host_fixed, is_of_server, is_write_on_link, link_under}
use Rattle.gateway_state.specs.Subscribing.{cancelled_on, cid_in, is_on_sid, limit_unless, new_sub, paused_to, sub_judged, sub_of, sub_verdict, sub_verdict_on, sub_verdict_over, sub_verdict_unless, subscription_limit, subscription_refusal, unreadable_told, with_pause, with_sub, without_sub}
use Rattle.gateway_state.specs.Telling.{marked, told}
use Rattle.gateway_state.specs.Updates.{is_unreadable}
use Rattle.gateway_state.specs.Variables.{ConnectedVariable, connected, connected_in, connected_over, link_of}
use Rattle.gateway_state.specs.Writing.{may_write, new_write, notified_by, with_write, write_answered, write_handed_on, write_judged, write_verdict, write_verdict_on, write_verdict_over, write_waits, written_by}
use Rattle.gateway_state.proofs.RowTests.{none_found}
use Rattle.gateway_state.proofs.Kept.{KeepsErrors, KeepsQuotes, KeepsRows, KeepsSession, by_any, kept_either, with_connections, with_read}

-- there is a row where the first that passes is found
found_there : {A : Type 0} (test : A → Bool) (rows : List A) (row : A) → find test rows ≡ Some row → list_any test rows ≡ true
found_there test [] row e = absurd cc
found_there test (first ∷ rows) row e =
    elim (test first) as (λ t. cond t (Some first) (find test rows) ≡ Some row → (t || list_any test rows) ≡ true)
    [ true ↦ λ h. refl | false ↦ λ h. found_there test rows row h ] e

-- a read is accepted on a channel that stands
accepted_on : (w : Gateway) (number sid dtype count : ℕ) (reach : Reach) (rights : ℕ) → read_verdict w number sid dtype count ≡ Accepted reach rights → list_any (is_channel number sid) w.clients.channels ≡ true
accepted_on w number sid dtype count reach rights e = by (channel_of w number sid) refl e
  where
    by : (found : Option Channel) → channel_of w number sid ≡ found → verdict_on w dtype count found ≡ Accepted reach rights → list_any (is_channel number sid) w.clients.channels ≡ true
    by None is e = absurd cc
    by (Some c) is e = found_there (is_channel number sid) w.clients.channels c is

-- a subscription is accepted on a channel that stands, under an ID that is free
record IsFree (w : Gateway) (sub : ClientSub) : Type 0 where
  free : is_some (sub_of w sub.session sub.id) ≡ false
  on : list_any (is_channel sub.session sub.sid) w.clients.channels ≡ true

free_unless : (w : Gateway) (sub : ClientSub) (c : Channel) (native : Native) → sub_verdict_unless c (subscription_refusal w sub native) ≡ SubVerdicts.Accepted → is_some (sub_of w sub.session sub.id) ≡ false
free_unless w sub c native e = by (is_some (sub_of w sub.session sub.id)) refl e
  where
    by : (taken : Bool) → is_some (sub_of w sub.session sub.id) ≡ taken
        → sub_verdict_unless c (cond taken (Some ECA_INTERNAL) (limit_unless (value_refusal native sub.dtype sub.count) (subscription_limit w sub.session sub.mask))) ≡ SubVerdicts.Accepted
        → is_some (sub_of w sub.session sub.id) ≡ false
    by true is e = absurd cc
    by false is e = is

free_over : (w : Gateway) (sub : ClientSub) (c : Channel) (over : Option ConnectedVariable) → sub_verdict_over w sub c over ≡ SubVerdicts.Accepted → is_some (sub_of w sub.session sub.id) ≡ false
free_over w sub c None e = absurd cc
free_over w sub c (Some v) e = free_unless w sub c v.native e

free_on : (w : Gateway) (sub : ClientSub) → sub_verdict w sub ≡ SubVerdicts.Accepted → IsFree w sub
free_on w sub e = by (channel_of w sub.session sub.sid) refl e
  where
    by : (found : Option Channel) → channel_of w sub.session sub.sid ≡ found → sub_verdict_on w sub found ≡ SubVerdicts.Accepted → IsFree w sub
    by None is e = absurd cc
    by (Some c) is e = record { free = free_over w sub c (connected w c.real) e; on = found_there (is_channel sub.session sub.sid) w.clients.channels c is }

pub accepted_is_new : (w : Gateway) (sub : ClientSub) → sub_verdict w sub ≡ SubVerdicts.Accepted → has_sub sub.session sub.id w.clients ≡ false
accepted_is_new w sub e = none_found (is_sub sub.session sub.id) w.clients.subs (free_on w sub e).free

-- a write is accepted to the server of its channel's link
judged_server : (w : Gateway) (c : Channel) (at sid : ℕ) (value : Result Written WriteFault) (server upstream_sid : ℕ) (handed : Written)
    → write_judged w c at sid value ≡ WriteVerdicts.Accepted server upstream_sid handed → at ≡ server
judged_server w c at sid (Err fault) server upstream_sid handed e = absurd cc
judged_server w c at sid (Ok value) server upstream_sid handed e = by (may_write (rights_of w c)) e
  where
    by : (may : Bool) → cond may (WriteVerdicts.Accepted at sid value) (WriteVerdicts.Refused c.cid ECA_NOWTACCESS) ≡ WriteVerdicts.Accepted server upstream_sid handed → at ≡ server
    by true is = cc
    by false is = absurd cc

server_in : (w : Gateway) (c : Channel) (link : LinkRow) (state : LinkState) (dtype count : ℕ) (payload : List ℕ) (server upstream_sid : ℕ) (handed : Written)
    → write_verdict_over w c dtype count payload (connected_in link state) ≡ WriteVerdicts.Accepted server upstream_sid handed → link.server ≡ server
server_in w c link Creating dtype count payload server upstream_sid handed e = absurd cc
server_in w c link (Connected sid native native_count) dtype count payload server upstream_sid handed e =
    judged_server w c link.server sid (written dtype count native_count payload) server upstream_sid handed e
server_in w c link Unusable dtype count payload server upstream_sid handed e = absurd cc

server_over : (w : Gateway) (c : Channel) (link : Option LinkRow) (dtype count : ℕ) (payload : List ℕ) (server upstream_sid : ℕ) (handed : Written)
    → write_verdict_over w c dtype count payload (connected_over link) ≡ WriteVerdicts.Accepted server upstream_sid handed → is_of_server server link ≡ true
server_over w c None dtype count payload server upstream_sid handed e = absurd cc
server_over w c (Some link) dtype count payload server upstream_sid handed e =
    eq-eqb link.server server (server_in w c link link.state dtype count payload server upstream_sid handed e)

write_on_link : (w : Gateway) (number sid dtype count ioid : ℕ) (payload : List ℕ) (server upstream_sid : ℕ) (handed : Written)
    → write_verdict w number sid dtype count payload ≡ WriteVerdicts.Accepted server upstream_sid handed
    → is_write_on_link w (new_write w server number sid dtype count ioid) ≡ true
write_on_link w number sid dtype count ioid payload server upstream_sid handed e = by (channel_of w number sid) e
  where
    by : (found : Option Channel) → write_verdict_on w dtype count payload found ≡ WriteVerdicts.Accepted server upstream_sid handed → is_of_server server (link_under w found) ≡ true
    by None is = absurd cc
    by (Some c) is = server_over w c (link_of w c.real) dtype count payload server upstream_sid handed is

-- a session whose host is fixed, renamed or paused is the same session
fixed_keeps : KeepsSession fixed
fixed_keeps = record { same_number = λ row. refl; stays_fixed = λ row is. refl }

renamed_keeps : (checks_hosts : Bool) (host : List ℕ) → KeepsSession (renamed checks_hosts host)
renamed_keeps checks_hosts host = record {
  same_number = λ row. elim (row.host_fixed || checks_hosts) as (λ t. (cond t row (record row { host = host })).number ≡ row.number) [ true ↦ refl | false ↦ refl ];
  stays_fixed = λ row is. elim (row.host_fixed || checks_hosts) as (λ t. (cond t row (record row { host = host })).host_fixed ≡ true) [ true ↦ is | false ↦ is ];
}

called_keeps : (user : List ℕ) → KeepsSession (called user)
called_keeps user = record {
  same_number = λ row. elim row.host_fixed as (λ t. (cond t row (record row { user = user })).number ≡ row.number) [ true ↦ refl | false ↦ refl ];
  stays_fixed = λ row is. elim row.host_fixed as (λ t. (cond t row (record row { user = user })).host_fixed ≡ true) [ true ↦ is | false ↦ is ];
}

paused_keeps : (paused : Bool) → KeepsSession (with_pause paused)
paused_keeps paused = record { same_number = λ row. refl; stays_fixed = λ row is. is }

-- where a session's name leads somewhere, the session stands, and its host is fixed before it gets a channel
fixed_now : (policy : Policy) (name : List ℕ) (lead : Lead) (number : ℕ) (rows : List Session) → lead_for policy name (find (is_numbered number) rows) ≡ Some lead
    → is_host_fixed (find (is_numbered number) (change_first (is_numbered number) fixed rows)) ≡ true
fixed_now policy name lead number [] leads = absurd cc
fixed_now policy name lead number (row ∷ rows) leads = by (is_numbered number row) refl leads (λ later. fixed_now policy name lead number rows later)
  where
    by : (same : Bool) → is_numbered number row ≡ same → lead_for policy name (cond same (Some row) (find (is_numbered number) rows)) ≡ Some lead
        → (lead_for policy name (find (is_numbered number) rows) ≡ Some lead → is_host_fixed (find (is_numbered number) (change_first (is_numbered number) fixed rows)) ≡ true)
        → is_host_fixed (find (is_numbered number) (cond same (fixed row ∷ rows) (row ∷ change_first (is_numbered number) fixed rows))) ≡ true
    by true is leads rest = rw is refl
    by false is leads rest = rw is (rest leads)

-- a connection that was added stands
added_stands : (number : ℕ) (rows : List Connection) → list_any (is_to (ToSession number)) (rows ++ fresh (ToSession number) ∷ []) ≡ true
added_stands number [] = rw (eq-eqb number number refl) refl
added_stands number (row ∷ rows) =
    elim (is_to (ToSession number) row) as (λ t. (t || list_any (is_to (ToSession number)) (rows ++ fresh (ToSession number) ∷ [])) ≡ true)
    [ true ↦ refl | false ↦ added_stands number rows ]

module _ (P : Gateway → Type 0) (kept : KeepsRows P) where
  -- connections that come

  pub kept_opened : (w : Gateway) (number : ℕ) (host : List ℕ) → P w → P (opened w number host)
  kept_opened w number host holds =
      let new : Session = record { number = number; peer = host; host = host; user = []; host_fixed = false; paused = false } in
      let first : Gateway = with_connections (w.connections ++ fresh (ToSession number) ∷ []) w in
      let second = kept.session_added new first (added_stands number w.connections) (kept.connection_added (ToSession number) w (λ other is. absurd cc) holds) in
      kept_either P (is_open w (ToSession number) || leb w.limits.sessions (length w.clients.sessions)) w (told number replies.Version (with_session w number host))
      (λ _. holds) (kept.messages.telling number replies.Version by_any (with_session w number host) second)

  -- new channels

  -- the session stands, with its host fixed
  abbrev HasHost : ℕ → Gateway → Type 0
  HasHost number w = is_host_fixed (find (is_numbered number) w.clients.sessions) ≡ true

  kept_created : (number cid : ℕ) (name : List ℕ) (lead : Lead) (link : LinkRow) (native : Native) (w : Gateway) → HasHost number w → P w → P (created number cid name lead link native w)
  kept_created number cid name lead link native w fixed holds =
      let rights : ℕ = rights_on w lead link in
      let first : Gateway = with_channel number cid name lead.real rights w in
      kept.messages.telling number (replies.CreateChannel cid (next_sid w number) native.dtype native.count) by_any (told number (replies.AccessRights cid rights) first)
      (kept.messages.telling number (replies.AccessRights cid rights) by_any first (kept.channel_added number cid name lead.real rights w fixed holds))

  pub kept_remembered : (host name : List ℕ) (w : Gateway) → P w → P (remembered host name w)
  kept_remembered host name w holds = kept.searches (with_search w.limits host name w.searches) w holds

  kept_remembered_by : (row : Option Session) (name : List ℕ) (w : Gateway) → P w → P (remembered_by row name w)
  kept_remembered_by None name w holds = holds
  kept_remembered_by (Some row) name w holds = kept_remembered row.host name w holds

  kept_not_connected : (number cid : ℕ) (name : List ℕ) (w : Gateway) → P w → P (not_connected number cid name w)
  kept_not_connected number cid name w holds =
      let row : Option Session = find (is_numbered number) w.clients.sessions in
      kept.messages.telling number (replies.CreateChannelFail cid) by_any (remembered_by row name w) (kept_remembered_by row name w holds)

  kept_created_over : (number cid : ℕ) (name : List ℕ) (lead : Lead) (over : Option ConnectedVariable) (w : Gateway) → HasHost number w → P w → P (created_over number cid name lead over w)
  kept_created_over number cid name lead None w fixed holds = kept_not_connected number cid name w holds
  kept_created_over number cid name lead (Some v) w fixed holds =
      let made : Gateway = created number cid name lead v.link v.native w in
      kept.searches (without_search (search_left_by (find (is_numbered number) made.clients.sessions) name made) made.searches) made
      (kept_created number cid name lead v.link v.native w fixed holds)

  kept_created_as : (number cid : ℕ) (name : List ℕ) (lead : Option Lead) (w : Gateway) → ((to : Lead) → lead ≡ Some to → HasHost number w) → P w
      → P (created_as number cid name lead w)
  kept_created_as number cid name None w fixed holds = kept.messages.telling number (replies.CreateChannelFail cid) by_any w holds
  kept_created_as number cid name (Some lead) w fixed holds =
      kept_either P (leb w.limits.channels (channel_count number w.clients)) (creation_failed number cid w) (created_over number cid name lead (connected w lead.real) w)
      (λ _. kept.messages.telling number (replies.CreateChannelFail cid) by_any w holds) (kept_created_over number cid name lead (connected w lead.real) w (fixed lead refl) holds)

  kept_with_host_fixed : (number : ℕ) (w : Gateway) → P w → P (with_host_fixed number w)
  kept_with_host_fixed number w holds = kept.session_changed number fixed w fixed_keeps holds

  kept_channel_asked : (number cid : ℕ) (name : List ℕ) (w : Gateway) → P w → P (channel_asked number cid name w)
  kept_channel_asked number cid name w holds =
      kept_created_as number cid name (lead_in w number name) (with_host_fixed number w)
      (λ lead leads. fixed_now w.policy name lead number w.clients.sessions leads) (kept_with_host_fixed number w holds)

  -- names that are sought

  kept_served_over : (number cid : ℕ) (over : Option ConnectedVariable) (w : Gateway) → P w → P (served_over number cid over w)
  kept_served_over number cid None w holds = holds
  kept_served_over number cid (Some v) w holds = kept.messages.telling number (replies.Search cid w.config.port) by_any w holds

  kept_sought_as : (number cid : ℕ) (name : List ℕ) (lead : Option Lead) (w : Gateway) → P w → P (sought_as number cid name lead w)
  kept_sought_as number cid name None w holds = holds
  kept_sought_as number cid name (Some lead) w holds =
      let row : Option Session = find (is_numbered number) w.clients.sessions in
      kept_served_over number cid (connected w lead.real) (remembered_by row name w) (kept_remembered_by row name w holds)

  pub kept_sought : (number cid : ℕ) (name : List ℕ) (w : Gateway) → P w → P (sought number cid name w)
  kept_sought number cid name w holds = kept_sought_as number cid name (lead_in w number name) w holds

  -- requests on no channel

  kept_no_channel : (number : ℕ) (head : Header) → KeepsErrors P number head → (w : Gateway) → P w → P (no_channel w number head)
  kept_no_channel number head errors w holds =
      kept_either P (w.limits.passes_over_gone && was_given_out w head.p1) w (told number (replies.Error NO_CHANNEL ECA_BADCHID head) w)
      (λ _. holds) (errors NO_CHANNEL ECA_BADCHID w holds)

  -- channels that go, and reads

  kept_cleared : (number sid cid : ℕ) (head : Header) → KeepsErrors P number head → (found : Option Channel) (w : Gateway) → P w → P (cleared number sid cid head found w)
  kept_cleared number sid cid head errors None w holds = kept_no_channel number head errors w holds
  kept_cleared number sid cid head errors (Some c) w holds =
      kept.messages.telling number (replies.ClearChannel sid cid) by_any (without_channel number sid w) (kept.channel_removed number sid w holds)

  kept_judged : (number sid ioid dtype count : ℕ) (head : Header) → KeepsErrors P number head → (verdict : ReadVerdict) (w : Gateway)
      → ((reach : Reach) (rights : ℕ) → verdict ≡ Accepted reach rights → list_any (is_channel number sid) w.clients.channels ≡ true)
      → P w → P (judged number sid ioid dtype count head verdict w)
  kept_judged number sid ioid dtype count head errors NoChannel w on holds = kept_no_channel number head errors w holds
  kept_judged number sid ioid dtype count head errors Ignored w on holds = holds
  kept_judged number sid ioid dtype count head errors (Refused code) w on holds = kept.messages.telling number (replies.ReadNotifyRefused ioid dtype count code) by_any w holds
  kept_judged number sid ioid dtype count head errors (Accepted reach rights) w on holds =
      let read : WaitingRead = record { session = number; sid = sid; dtype = dtype; count = count; ioid = ioid } in
      kept.channel_changed number sid reach rights (with_read read w) (kept.read_added read w (on reach rights refl) holds)

  -- subscriptions

  kept_sub_judged : (sub : ClientSub) (head : Header) → KeepsErrors P sub.session head → (verdict : SubVerdict) (w : Gateway) → (verdict ≡ SubVerdicts.Accepted → IsFree w sub) → P w → P (sub_judged sub head verdict w)
  kept_sub_judged sub head errors SubVerdicts.NoChannel w free holds = kept_no_channel sub.session head errors w holds
  kept_sub_judged sub head errors SubVerdicts.Ignored w free holds = holds
  kept_sub_judged sub head errors (SubVerdicts.Refused cid code) w free holds = errors cid code w holds
  kept_sub_judged sub head errors SubVerdicts.Accepted w free holds =
      let is = free refl in
      let added : Gateway = with_sub sub w in
      let there : P added = kept.sub_added sub w is.free is.on holds in
      kept_either P (w.limits.tells_unreadable && is_unreadable added (channel_of added sub.session sub.sid)) (unreadable_told added sub) added
      (λ _. kept.messages.telling sub.session (replies.UpdateRefused sub.id sub.dtype ECA_NORDACCESS) by_any added there) there

  kept_cancelled_on : (number sid id dtype count : ℕ) (head : Header) → KeepsErrors P number head → (found : Option Channel) (w : Gateway) → P w → P (cancelled_on number sid id dtype count head found w)
  kept_cancelled_on number sid id dtype count head errors None w holds = kept_no_channel number head errors w holds
  kept_cancelled_on number sid id dtype count head errors (Some c) w holds =
      let removed : Gateway = told number (replies.EventCancelled sid id dtype count) (without_sub number id w) in
      let refused : Gateway = told number (replies.Error c.cid ECA_INTERNAL head) w in
      kept_either P (is_on_sid sid (sub_of w number id)) removed refused
      (λ _. kept.messages.telling number (replies.EventCancelled sid id dtype count) by_any (without_sub number id w) (kept.sub_removed number id w holds))
      (errors c.cid ECA_INTERNAL w holds)

  kept_paused_to : (number : ℕ) (paused : Bool) (w : Gateway) → P w → P (paused_to number paused w)
  kept_paused_to number paused w holds = kept.session_changed number (with_pause paused) w (paused_keeps paused) holds

  -- writes

  kept_written_by : (number : ℕ) (head : Header) → KeepsErrors P number head → (verdict : WriteVerdict) (w : Gateway) → P w → P (written_by number head verdict w)
  kept_written_by number head errors WriteVerdicts.NoChannel w holds = kept_no_channel number head errors w holds
  kept_written_by number head errors WriteVerdicts.Ignored w holds = holds
  kept_written_by number head errors (WriteVerdicts.Refused cid code) w holds = errors cid code w holds
  kept_written_by number head errors (WriteVerdicts.Accepted server sid value) w holds = kept.messages.asking server (to_servers.Write sid value) w holds

  kept_handed_on : (number sid ioid dtype count server upstream_sid : ℕ) (value : Written) (w : Gateway)
      → is_write_on_link w (new_write w server number sid dtype count ioid) ≡ true → P w → P (write_handed_on number sid ioid dtype count server upstream_sid value w)
  kept_handed_on number sid ioid dtype count server upstream_sid value w on holds =
      let write : WaitingWrite = new_write w server number sid dtype count ioid in
      kept_either P (leb w.limits.writes (write_count number w.upstream)) (write_answered number ioid dtype count ECA_PUTFAIL w) (write_waits write upstream_sid value w)
      (λ _. kept.messages.telling number (replies.WriteNotify ioid dtype count ECA_PUTFAIL) by_any w holds)
      (kept.messages.asking server (to_servers.WriteNotify upstream_sid write.id value) (with_write write w) (kept.write_added write w on refl holds))

  kept_notified_by : (number sid ioid dtype count : ℕ) (head : Header) → KeepsErrors P number head → (verdict : WriteVerdict) (w : Gateway)
      → ((server upstream_sid : ℕ) (value : Written) → verdict ≡ WriteVerdicts.Accepted server upstream_sid value → is_write_on_link w (new_write w server number sid dtype count ioid) ≡ true)
      → P w → P (notified_by number sid ioid dtype count head verdict w)
  kept_notified_by number sid ioid dtype count head errors WriteVerdicts.NoChannel w on holds = kept_no_channel number head errors w holds
  kept_notified_by number sid ioid dtype count head errors WriteVerdicts.Ignored w on holds = holds
  kept_notified_by number sid ioid dtype count head errors (WriteVerdicts.Refused cid code) w on holds = kept.messages.telling number (replies.WriteNotify ioid dtype count code) by_any w holds
  kept_notified_by number sid ioid dtype count head errors (WriteVerdicts.Accepted server upstream_sid value) w on holds =
      kept_handed_on number sid ioid dtype count server upstream_sid value w (on server upstream_sid value refl) holds

  -- what a client says

  kept_versioned : (w : Gateway) (number minor : ℕ) → P w → P (versioned w number minor)
  kept_versioned w number minor holds =
      kept_either P (ltb minor LOWEST_MINOR) (marked (ToSession number) w) w
      (λ _. kept.messages.marking (ToSession number) w holds) holds

  kept_unreadable : (w : Gateway) (number : ℕ) (head : Header) → KeepsErrors P number head → P w → P (unreadable w number head)
  kept_unreadable w number head errors holds =
      let failed : Gateway = creation_failed number head.p1 (with_host_fixed number w) in
      let refused : Gateway = told number (replies.Error NO_CHANNEL ECA_INTERNAL head) w in
      let cid : ℕ = cid_in (channel_of w number head.p1) in
      let short : Gateway = told number (replies.Error cid ECA_INTERNAL head) w in
      let ignored : Bool = eqb head.command CA_PROTO_CLIENT_NAME || eqb head.command CA_PROTO_HOST_NAME in
      let adding : Bool = eqb head.command CA_PROTO_EVENT_ADD in
      kept_either P (eqb head.command CA_PROTO_CREATE_CHAN) failed (cond ignored w (cond adding short refused))
      (λ _. kept.messages.telling number (replies.CreateChannelFail head.p1) by_any (with_host_fixed number w) (kept_with_host_fixed number w holds))
      (kept_either P ignored w (cond adding short refused) (λ _. holds)
      (kept_either P adding short refused (λ _. errors cid ECA_INTERNAL w holds)
      (errors NO_CHANNEL ECA_INTERNAL w holds)))

  kept_requested : (w : Gateway) (number : ℕ) (message : Message) (request : Result ClientRequest RequestFault)
      → KeepsQuotes P number message → request_of message.head message.payload ≡ request → P w → P (requested w number message request)
  kept_requested w number message (Ok (requests.Version minor)) quoted is holds = kept_versioned w number minor holds
  kept_requested w number message (Ok (requests.EventAdd add)) quoted is holds =
      let sub : ClientSub = new_sub number add.sid add.id add.dtype add.count add.mask in
      kept_sub_judged sub message.head quoted.errors (sub_verdict w sub) w (free_on w sub) holds
  kept_requested w number message (Ok (requests.EventCancel cancel)) quoted is holds =
      kept_cancelled_on number cancel.sid cancel.id cancel.dtype cancel.count message.head quoted.errors (channel_of w number cancel.sid) w holds
  kept_requested w number message (Ok (requests.Write write)) quoted is holds =
      kept_written_by number message.head quoted.errors (write_verdict w number write.sid write.dtype write.count write.value) w holds
  kept_requested w number message (Ok requests.EventsOff) quoted is holds = kept_paused_to number true w holds
  kept_requested w number message (Ok requests.EventsOn) quoted is holds = kept_paused_to number false w holds
  kept_requested w number message (Ok (requests.ClearChannel clear)) quoted is holds =
      kept_cleared number clear.sid clear.cid message.head quoted.errors (channel_of w number clear.sid) w holds
  kept_requested w number message (Ok (requests.ReadNotify read)) quoted is holds =
      kept_judged number read.sid read.ioid read.dtype read.count message.head quoted.errors (read_verdict w number read.sid read.dtype read.count) w
      (accepted_on w number read.sid read.dtype read.count) holds
  kept_requested w number message (Ok (requests.CreateChannel create)) quoted is holds = kept_channel_asked number create.cid create.name w holds
  kept_requested w number message (Ok (requests.WriteNotify write)) quoted is holds =
      kept_notified_by number write.sid write.ioid write.dtype write.count message.head quoted.errors (write_verdict w number write.sid write.dtype write.count write.value) w
      (λ server upstream_sid written accepted. write_on_link w number write.sid write.dtype write.count write.ioid write.value server upstream_sid written accepted) holds
  kept_requested w number message (Ok (requests.ClientName name)) quoted is holds = kept.session_changed number (called name) w (called_keeps name) holds
  kept_requested w number message (Ok (requests.HostName host)) quoted is holds = kept.session_changed number (renamed w.limits.checks_hosts host) w (renamed_keeps w.limits.checks_hosts host) holds
  kept_requested w number message (Ok requests.Echo) quoted is holds = quoted.echo is w holds
  kept_requested w number message (Err fault) quoted is holds = kept_unreadable w number message.head quoted.errors holds

  kept_said_as : (w : Gateway) (number : ℕ) (message : Message) (search : Option SearchRequest) → KeepsQuotes P number message → P w → P (said_as w number message search)
  kept_said_as w number message None quoted holds = kept_requested w number message (request_of message.head message.payload) quoted refl holds
  kept_said_as w number message (Some search) quoted holds = kept_sought number search.cid search.name w holds

  pub kept_client_said : (w : Gateway) (number : ℕ) (message : Message) → KeepsQuotes P number message → P w → P (client_said w number message)
  kept_client_said w number message quoted holds = kept_said_as w number message (search_in w message) quoted holds
