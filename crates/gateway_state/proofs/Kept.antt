-- What every state of a run has, if each change of rows keeps it.
use Rattle.std.proofs.Common.{◌≡◌, ℕ, List, [], ◌∷◌, ◌++◌, Bool, true, false, cond, Some, None, Ok, refl}
use Rattle.std.specs.Prelude.{filter, is_some}
use Rattle.std.specs.List.{find, list_any}
use Rattle.rows.specs.Rows.{change_first}
use Rattle.ca_header.specs.declared.header.Header.{Header}
use Rattle.ca_header.specs.declared.header.Message.{Message}
use Rattle.ca_message.specs.declared.request.ClientRequest.TheVariants as requests
use Rattle.ca_message.specs.declared.to_client.ToClient.{ToClient}
use Rattle.ca_message.specs.declared.to_client.ToClient.TheVariants as replies
use Rattle.ca_message.specs.declared.to_server.ToServer.{ToServer}
use Rattle.ca_message.specs.ClientRequest.{request_of}
use Rattle.named_rows.specs.declared.channels.Channel.{Channel}
use Rattle.named_rows.specs.declared.channels.Reach.{Reach}
use Rattle.named_rows.specs.declared.reads.WaitingRead.{WaitingRead}
use Rattle.channel_table.specs.declared.sessions.Session.{Session}
use Rattle.named_rows.specs.declared.subs.ClientSub.{ClientSub}
use Rattle.named_rows.specs.Channels.{is_channel}
use Rattle.channel_table.specs.Sessions.{is_numbered}
use Rattle.link_table.specs.declared.links.LinkState.{LinkState}
use Rattle.link_table.specs.declared.links.Subject.{Subject}
use Rattle.link_table.specs.declared.links.Subject.TheVariants.{Properties}
use Rattle.link_table.specs.declared.servers.Server.{Server}
use Rattle.link_table.specs.declared.writes.WaitingWrite.{WaitingWrite}
use Rattle.value_cache.specs.Held.{Held}
use Rattle.gateway_state.specs.declared.cached.LastMessage.{LastMessage}
use Rattle.gateway_state.specs.declared.event.Dest.{Dest}
use Rattle.gateway_state.specs.declared.event.Dest.TheVariants as dests
use Rattle.gateway_state.specs.declared.event.Event.{Event}
use Rattle.gateway_state.specs.declared.last_age.LastAge.{LastAge}
use Rattle.gateway_state.specs.declared.limits.Limits.{Limits}
use Rattle.rule_desk.specs.declared.policy.Policy.{Policy}
use Rattle.gateway_state.specs.declared.connections.Connection.{Connection}
use Rattle.fanout.specs.Outbox.{appended}
use Rattle.fanout.specs.Waiting.{Waiting}
use Rattle.gateway_state.specs.declared.search.RememberedSearch.{RememberedSearch}
use Rattle.link_table.specs.declared.counter.Counter.TheVariants.{Cid as CountsCids, Subscription as CountsSubscriptions}
use Rattle.link_table.specs.Counters.{given_out}
use Rattle.link_table.specs.LinkRows.{has_server}
use Rattle.link_table.specs.Links.{new_link}
use Rattle.link_table.specs.Servers.{is_server, with_minor}
use Rattle.gateway_state.specs.Clients.{next_sid, no_reach, with_channel, without_channel}
use Rattle.gateway_state.specs.Asked.{is_open}
use Rattle.gateway_state.specs.CachedRows.{put_row}
use Rattle.gateway_state.specs.Connections.{fresh, is_to, most_for}
use Rattle.gateway_state.specs.Delivered.{IsSaidBy}
use Rattle.gateway_state.specs.Gateway.{Gateway}
use Rattle.gateway_state.specs.Notices.{forgotten, next_sub_id, with_reach, with_subscription_of, without_read}
use Rattle.gateway_state.specs.Servers.{next_cid, with_link_state, without_link}
use Rattle.gateway_state.specs.Sessions.{lost, up_lost}
use Rattle.gateway_state.specs.Subscribing.{sub_of, with_sub, without_sub}
use Rattle.gateway_state.specs.Settled.{is_host_fixed, is_write_on_link}
use Rattle.gateway_state.specs.Telling.{asked, marked, outgoing, outgoing_upstream, sent, told}
use Rattle.gateway_state.specs.Updates.{owed_to, owed_to_all, with_owed_of}
use Rattle.gateway_state.specs.Variables.{is_linked}
use Rattle.gateway_state.specs.Writing.{next_write_id, with_write, without_write}

-- the outbox of one connection is changed
abbrev pub with_outbox : Dest → (Waiting → Waiting) → Gateway → Gateway
with_outbox dest change w =
    record w { connections = change_first (is_to dest) (λ (row : Connection). record row { outbox = change row.outbox }) w.connections }

-- rows that are changed whole
abbrev pub with_connections : List Connection → Gateway → Gateway
with_connections rows w = record w { connections = rows }

abbrev pub with_sessions : List Session → Gateway → Gateway
with_sessions rows w = record w { clients = record w.clients { sessions = rows } }

abbrev pub with_servers : List Server → Gateway → Gateway
with_servers rows w = record w { upstream = record w.upstream { servers = rows } }

abbrev pub with_cache : List LastMessage → Gateway → Gateway
with_cache rows w = record w { cache = rows }

abbrev pub with_searches : List RememberedSearch → Gateway → Gateway
with_searches rows w = record w { searches = rows }

abbrev pub with_policy : Policy → Gateway → Gateway
with_policy policy w = record w { policy = policy }

abbrev pub with_limits : Limits → Gateway → Gateway
with_limits limits w = record w { limits = limits }

abbrev pub with_last_age : LastAge → Gateway → Gateway
with_last_age last w = record w { last_age = last }

-- the ID of a subscription was given out
abbrev pub with_id_given : ℕ → Gateway → Gateway
with_id_given id w =
    record w { upstream = record w.upstream { counters = given_out CountsSubscriptions w.limits.reuses_numbers id w.upstream.counters } }

-- a link gets a subscription under the next ID for a subject
abbrev pub with_new_subscription : Subject → ℕ → ℕ → ℕ → ℕ → ℕ → Gateway → Gateway
with_new_subscription subject server cid mask count sent w =
    let id = next_sub_id w server in
    with_subscription_of subject server cid (Some (record { id = id; mask = mask; count = count; sent = sent })) (with_id_given id w)

-- rows that are added and removed
abbrev pub with_read : WaitingRead → Gateway → Gateway
with_read read w = record w { clients = record w.clients { reads = w.clients.reads ++ read ∷ [] } }

abbrev pub with_link : ℕ → List ℕ → Gateway → Gateway
with_link server name w = record w {
  upstream = record w.upstream {
    links = w.upstream.links ++ new_link server (next_cid w) name ∷ [];
    counters = given_out CountsCids w.limits.reuses_numbers (next_cid w) w.upstream.counters;
  };
}

-- the channel that `with_channel` adds
abbrev pub new_channel : ℕ → ℕ → List ℕ → List ℕ → ℕ → Gateway → Channel
new_channel session cid name real rights w = record {
  session = session;
  sid = next_sid w session;
  cid = cid;
  asked = name;
  real = real;
  reach = no_reach;
  rights_told = rights;
}

-- a change of a session leaves it the same session, and its host fixed where it is
pub record KeepsSession (change : Session → Session) : Type 0 where
  pub same_number : (row : Session) → (change row).number ≡ row.number
  pub stays_fixed : (row : Session) → row.host_fixed ≡ true → (change row).host_fixed ≡ true

-- what may be said to any session, whatever the event
abbrev pub IsSaidByAny : ToClient → Type 0
IsSaidByAny said = (event : Event) (number : ℕ) → IsSaidBy event number said

-- as most replies and notices may
pub by_any : Event → ℕ → Unit {0}
by_any event number = record {}

-- what any event may say keeps it, what servers are asked does, and a mark
pub record KeepsMessages (P : Gateway → Type 0) : Type 0 where
  pub telling : (number : ℕ) (said : ToClient) → IsSaidByAny said → (w : Gateway) → P w → P (told number said w)
  pub asking : (number : ℕ) (said : ToServer) (w : Gateway) → P w → P (asked number said w)
  pub marking : (dest : Dest) (w : Gateway) → P w → P (marked dest w)

-- an ERROR over this header keeps it
abbrev pub KeepsErrors : (Gateway → Type 0) → ℕ → Header → Type 0
KeepsErrors P number head = (cid code : ℕ) (w : Gateway) → P w → P (told number (replies.Error cid code head) w)

-- what quotes this message to who sent it keeps it
pub record KeepsQuotes (P : Gateway → Type 0) (number : ℕ) (message : Message) : Type 0 where
  pub echo : request_of message.head message.payload ≡ Ok requests.Echo → (w : Gateway) → P w → P (told number (replies.Echo message) w)
  pub errors : KeepsErrors P number message.head

-- each change of rows keeps it that what is said makes: rows come, change and go one by one, but for new
-- links
pub record KeepsRows (P : Gateway → Type 0) : Type 0 where
  pub messages : KeepsMessages P
  pub connection_added : (dest : Dest) (w : Gateway) → ((number : ℕ) → dest ≡ dests.Upstream number → has_server number w.upstream ≡ true) → P w → P (with_connections (w.connections ++ fresh dest ∷ []) w)
  pub session_added : (row : Session) (w : Gateway) → is_open w (dests.Session row.number) ≡ true → P w → P (with_sessions (w.clients.sessions ++ row ∷ []) w)
  pub session_changed : (number : ℕ) (change : Session → Session) (w : Gateway) → KeepsSession change → P w
      → P (with_sessions (change_first (is_numbered number) change w.clients.sessions) w)
  pub server_added : (row : Server) (w : Gateway) → P w → P (with_servers (w.upstream.servers ++ row ∷ []) w)
  pub server_changed : (number minor : ℕ) (w : Gateway) → P w → P (with_servers (change_first (is_server number) (with_minor minor) w.upstream.servers) w)
  pub cache_left : (stays : LastMessage → Bool) (w : Gateway) → P w → P (with_cache (filter stays w.cache) w)
  pub cached : (server cid : ℕ) (change : Held → Held) (w : Gateway) → P w → P (with_cache (put_row server cid change w.cache) w)
  pub bare : (cid : ℕ) (w : Gateway) → P w → P (forgotten Properties cid w)
  pub searches : (rows : List RememberedSearch) (w : Gateway) → P w → P (with_searches rows w)
  pub policy : (policy : Policy) (w : Gateway) → P w → P (with_policy policy w)
  pub limits : (limits : Limits) (w : Gateway) → P w → P (with_limits limits w)
  pub last_age : (last : LastAge) (w : Gateway) → P w → P (with_last_age last w)
  pub channel_added : (session cid : ℕ) (name real : List ℕ) (rights : ℕ) (w : Gateway) → is_host_fixed (find (is_numbered session) w.clients.sessions) ≡ true → P w
      → P (with_channel session cid name real rights w)
  pub channel_changed : (session sid : ℕ) (reach : Reach) (rights : ℕ) (w : Gateway) → P w → P (with_reach session sid reach rights w)
  pub channel_removed : (session sid : ℕ) (w : Gateway) → P w → P (without_channel session sid w)
  pub sub_added : (sub : ClientSub) (w : Gateway) → is_some (sub_of w sub.session sub.id) ≡ false
      → list_any (is_channel sub.session sub.sid) w.clients.channels ≡ true → P w → P (with_sub sub w)
  pub sub_changed : (session id : ℕ) (owed : Bool) (w : Gateway) → P w → P (with_owed_of session id owed w)
  pub sub_removed : (session id : ℕ) (w : Gateway) → P w → P (without_sub session id w)
  pub read_added : (read : WaitingRead) (w : Gateway) → list_any (is_channel read.session read.sid) w.clients.channels ≡ true → P w → P (with_read read w)
  pub read_removed : (read : WaitingRead) (w : Gateway) → P w → P (without_read read w)
  pub write_added : (write : WaitingWrite) (w : Gateway) → is_write_on_link w write ≡ true → write.id ≡ next_write_id w write.server → P w → P (with_write write w)
  pub write_removed : (server id : ℕ) (w : Gateway) → P w → P (without_write server id w)
  pub link_changed : (server cid : ℕ) (state : LinkState) (rights : ℕ) (w : Gateway) → P w → P (with_link_state server cid state rights w)
  pub subscription_made : (subject : Subject) (server cid mask count sent : ℕ) (w : Gateway) → P w → P (with_new_subscription subject server cid mask count sent w)
  pub subscription_ended : (subject : Subject) (server cid : ℕ) (w : Gateway) → P w → P (with_subscription_of subject server cid None w)
  pub link_removed : (server cid : ℕ) (w : Gateway) → P w → P (without_link server cid w)

-- and what becomes of outboxes and what goes with a connection keep it
pub record IsKept (P : Gateway → Type 0) : Type 0 where
  pub rows : KeepsRows P
  pub outbox_changed : (dest : Dest) (change : Waiting → Waiting) (w : Gateway) → P w → P (with_outbox dest change w)
  pub session_removed : (session : ℕ) (w : Gateway) → P w → P (lost w session)
  pub server_removed : (server : ℕ) (w : Gateway) → P w → P (up_lost w server)

-- and new links do
abbrev pub KeepsLinks : (Gateway → Type 0) → Type 0
KeepsLinks P = (server : ℕ) (name : List ℕ) (w : Gateway) → is_linked w name ≡ false → is_open w (dests.Upstream server) ≡ true → P w → P (with_link server name w)

-- what doesn't depend on outboxes is kept by all that is said
module _ (P : Gateway → Type 0) (kept : (dest : Dest) (change : Waiting → Waiting) (w : Gateway) → P w → P (with_outbox dest change w)) where
  kept_told : (number : ℕ) (said : ToClient) (w : Gateway) → P w → P (told number said w)
  unfolding sent
  kept_told number said w holds = kept (dests.Session number) (λ (waiting : Waiting). appended w.limits.messages waiting (outgoing said)) w holds

  kept_asked : (number : ℕ) (said : ToServer) (w : Gateway) → P w → P (asked number said w)
  unfolding sent
  kept_asked number said w holds = kept (dests.Upstream number) (λ (waiting : Waiting). appended (most_for w.limits (dests.Upstream number)) waiting (outgoing_upstream said)) w holds

  pub messages_kept : KeepsMessages P
  messages_kept = record {
    telling = λ number said any w holds. kept_told number said w holds;
    asking = λ number said w holds. kept_asked number said w holds;
    marking = λ dest w holds. kept dest (λ (waiting : Waiting). record waiting { marked = true }) w holds;
  }

  pub quotes_kept : (number : ℕ) (message : Message) → KeepsQuotes P number message
  quotes_kept number message = record {
    echo = λ is w holds. kept_told number (replies.Echo message) w holds;
    errors = λ cid code w holds. kept_told number (replies.Error cid code message.head) w holds;
  }

-- one or the other
pub kept_either : (P : Gateway → Type 0) (test : Bool) (v w : Gateway) → (test ≡ true → P v) → P w → P (cond test v w)
kept_either P true v w first second = first refl
kept_either P false v w first second = second

pub kept_owed_to_all : (P : Gateway → Type 0) → KeepsRows P → (subs : List ClientSub) (w : Gateway) → P w → P (owed_to_all w subs)
kept_owed_to_all P kept [] w holds = holds
kept_owed_to_all P kept (sub ∷ subs) w holds = kept_owed_to_all P kept subs (owed_to w sub) (kept.sub_changed sub.session sub.id true w holds)
