-- The updates that subscriptions are owed, and which of them are due.
use Rattle.std.specs.Prelude.{ℕ, List, length, filter, filter_map, bit_and, Bool, true, false, not, ◌&&◌, ◌||◌, nat_lt, if◌then◌else◌, Option, Some, None, Result, Ok, Err}
use Rattle.std.specs.List.{find, fold}
use Rattle.rows.specs.Rows.{change_first}
use Rattle.ca_message.specs.declared.to_client.ToClient.TheVariants as replies
use Rattle.named_rows.specs.declared.channels.Channel.{Channel}
use Rattle.channel_table.specs.declared.sessions.Session.{Session}
use Rattle.named_rows.specs.declared.subs.ClientSub.{ClientSub}
use Rattle.channel_table.specs.Sessions.{is_numbered}
use Rattle.named_rows.specs.Subs.{is_sub, with_owed}
use Rattle.dbr_layout.specs.declared.fault.LayoutFault.{LayoutFault}
use Rattle.dbr_layout.specs.View.{Shown}
use Rattle.value_cache.specs.Held.{Held, alarm_differs, nothing}
use Rattle.gateway_state.specs.declared.cached.LastMessage.{LastMessage}
use Rattle.gateway_state.specs.declared.event.Dest.TheVariants.{Session as ToSession}
use Rattle.gateway_state.specs.declared.interest.TheConstants.{ALARM_EVENTS, VALUE_EVENTS}
use Rattle.gateway_state.specs.declared.limits.Limits.{Limits}
use Rattle.gateway_state.specs.declared.limits.TheConstants.{UPDATE_LIMIT}
use Rattle.gateway_state.specs.declared.notice.UpdateNotice.{UpdateNotice}
use Rattle.gateway_state.specs.declared.reading.Given.{Given}
use Rattle.gateway_state.specs.Answer.{cached_value}
use Rattle.gateway_state.specs.CachedRows.{is_cached_of}
use Rattle.gateway_state.specs.Connections.{outbox_of}
use Rattle.gateway_state.specs.Gateway.{Gateway}
use Rattle.gateway_state.specs.Rights.{channel_of, may_read, rights_of}
use Rattle.gateway_state.specs.Telling.{told}
use Rattle.channel_table.specs.ClientRows as client_rows
use Rattle.gateway_state.specs.Variables.{ConnectedVariable, connected}
use Rattle.fanout.specs.Waiting.{Waiting, waiting_bytes}

-- a subscription is owed an update, or no longer
abbrev pub with_owed_of : ℕ → ℕ → Bool → Gateway → Gateway
with_owed_of session id owed w =
    record w { clients = record w.clients { subs = change_first (is_sub session id) (with_owed owed) w.clients.subs } }

abbrev pub owed_to : Gateway → ClientSub → Gateway
owed_to w sub = with_owed_of sub.session sub.id true w

-- each of these is owed an update
abbrev pub owed_to_all : Gateway → List ClientSub → Gateway
owed_to_all w subs = fold owed_to w subs

-- AN UPDATE CAME

-- the subscription is on this variable
abbrev pub is_sub_to : Gateway → List ℕ → ClientSub → Bool
is_sub_to w = client_rows.is_sub_to w.clients

abbrev pub asks_for : ℕ → ClientSub → Bool
asks_for events sub = nat_lt 0 (bit_and sub.mask events)

-- a value concerns it: it asks for values or for the log, or for alarms and the alarm is another
abbrev pub is_concerned : Bool → ClientSub → Bool
is_concerned differs sub = asks_for VALUE_EVENTS sub || asks_for ALARM_EVENTS sub && differs

abbrev pub held_of_row : Option LastMessage → Held
held_of_row None = nothing
held_of_row (Some row) = row.held

-- what is held of what a link was told last
abbrev pub held_by : Gateway → ℕ → Held
held_by w cid = held_of_row (find (is_cached_of cid) w.cache)

abbrev pub alarm_differs_in : Result Shown LayoutFault → Held → Bool
alarm_differs_in (Ok seen) held = alarm_differs seen held
alarm_differs_in (Err fault) held = false

-- the subscriptions to a variable that pass
abbrev pub concerned : Gateway → List ℕ → (ClientSub → Bool) → List ClientSub
concerned w name passes = filter (λ sub. is_sub_to w name sub && passes sub) w.clients.subs

-- UPDATES THAT ARE WITHHELD

abbrev pub is_unreadable : Gateway → Option Channel → Bool
is_unreadable w None = false
is_unreadable w (Some c) = not (may_read (rights_of w c))

-- its channel may not be read, and nothing is owed to it yet
abbrev pub is_withheld : Gateway → ClientSub → Bool
is_withheld w sub = not sub.owed && is_unreadable w (channel_of w sub.session sub.sid)

abbrev pub withheld : Gateway → List ClientSub
withheld w = filter (is_withheld w) w.clients.subs

-- as long as a channel may not be read, its subscriptions are owed the latest value
abbrev pub updates_withheld : Gateway → Gateway
updates_withheld w = owed_to_all w (withheld w)

-- UPDATES THAT ARE DUE

-- an outbox takes updates: it isn't marked, and few enough messages and bytes wait in it
abbrev pub outbox_takes_updates : Limits → Waiting → Bool
outbox_takes_updates limits box =
    not box.marked && nat_lt (length box.messages) UPDATE_LIMIT && nat_lt (waiting_bytes box) limits.update_bytes

abbrev pub takes_updates : Gateway → ℕ → Bool
takes_updates w number = outbox_takes_updates w.limits (outbox_of (ToSession number) w.connections)

abbrev pub paused_in : Option Session → Bool
paused_in None = false
paused_in (Some row) = row.paused

-- the session wants no updates for now
abbrev pub is_paused : Gateway → ℕ → Bool
is_paused w number = paused_in (find (is_numbered number) w.clients.sessions)

-- the update to a subscription, where this is given
abbrev pub update_by : ClientSub → Option Given → Option UpdateNotice
update_by sub None = None
update_by sub (Some given) = Some (record {
  session = sub.session;
  id = sub.id;
  dtype = sub.dtype;
  count = given.count;
  payload = given.payload;
})

-- the update of a variable to a subscription, where what was told last covers it
abbrev pub update_over : Gateway → ClientSub → Option ConnectedVariable → Option UpdateNotice
update_over w sub None = None
update_over w sub (Some v) = update_by sub (cached_value w v.link.cid v.native.count sub.dtype sub.count)

-- the same on a channel, where it may be read
abbrev pub update_on : Gateway → ClientSub → Option Channel → Option UpdateNotice
update_on w sub None = None
update_on w sub (Some c) = if may_read (rights_of w c) then update_over w sub (connected w c.real) else None

-- its session takes updates now
abbrev pub is_open_to : Gateway → ClientSub → Bool
is_open_to w sub = not (is_paused w sub.session) && takes_updates w sub.session

-- the update that is due to a subscription: one is owed, its session takes updates, its channel may be
-- read, and what was told last covers its type and count
unfoldable pub update_notice : Gateway → ClientSub → Option UpdateNotice
update_notice w sub =
    if sub.owed && is_open_to w sub then update_on w sub (channel_of w sub.session sub.sid) else None

abbrev pub update_notices : Gateway → List UpdateNotice
update_notices w = filter_map (update_notice w) w.clients.subs

-- the update is given, as long as those given before it leave room for it
abbrev pub update_told : Gateway → UpdateNotice → Gateway
update_told w notice =
    if takes_updates w notice.session
    then told notice.session (replies.Update notice.id notice.dtype notice.count notice.payload)
    (with_owed_of notice.session notice.id false w)
    else w

-- in the order in which the subscriptions were made
abbrev pub updates_told : Gateway → Gateway
updates_told w = fold update_told w (update_notices w)
