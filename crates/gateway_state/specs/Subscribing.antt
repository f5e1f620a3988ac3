-- What clients do with their subscriptions.
use Rattle.std.specs.Prelude.{ℕ, [], ◌∷◌, ◌++◌, filter, bit_and, Bool, true, false, ◌&&◌, ◌==◌, nat_le, is_some, if◌then◌else◌, Option, Some, None}
use Rattle.std.specs.List.{find}
use Rattle.rows.specs.Rows.{change_first}
use Rattle.ca_header.specs.declared.header.Header.{Header}
use Rattle.ca_message.specs.declared.codes.TheConstants.{ECA_ALLOCMEM, ECA_BADMASK, ECA_INTERNAL, ECA_NORDACCESS}
use Rattle.ca_message.specs.declared.commands.TheConstants.{NO_CHANNEL}
use Rattle.ca_message.specs.declared.to_client.ToClient.TheVariants as replies
use Rattle.named_rows.specs.declared.channels.Channel.{Channel}
use Rattle.channel_table.specs.declared.sessions.Session.{Session}
use Rattle.named_rows.specs.declared.subs.ClientSub.{ClientSub}
use Rattle.channel_table.specs.ClientRows.{sub_count}
use Rattle.channel_table.specs.Sessions.{is_numbered}
use Rattle.named_rows.specs.Subs.{is_sub, is_not_sub}
use Rattle.gateway_state.specs.declared.interest.TheConstants.{SERVED_EVENTS}
use Rattle.gateway_state.specs.declared.notice.SubVerdict.{SubVerdict}
use Rattle.gateway_state.specs.declared.notice.SubVerdict.TheVariants.{NoChannel, Ignored, Refused, Accepted}
use Rattle.gateway_state.specs.declared.reading.Native.{Native}
use Rattle.gateway_state.specs.Answer.{value_refusal}
use Rattle.gateway_state.specs.Clients.{no_channel}
use Rattle.gateway_state.specs.Gateway.{Gateway}
use Rattle.gateway_state.specs.Quantities.{Count, Dtype, Mask, SessionNumber, Sid, SubId}
use Rattle.gateway_state.specs.Rights.{channel_of}
use Rattle.gateway_state.specs.Telling.{told}
use Rattle.gateway_state.specs.Updates.{is_unreadable}
use Rattle.gateway_state.specs.Variables.{ConnectedVariable, connected}

-- the client's request about its channel is refused
abbrev pub request_refused : ℕ → ℕ → ℕ → Header → Gateway → Gateway
request_refused number cid code head w = told number (replies.Error cid code head) w

-- the session's subscription of an ID
abbrev pub sub_of : Gateway → ℕ → ℕ → Option ClientSub
sub_of w number id = find (is_sub number id) w.clients.subs

-- EVENT_ADD

abbrev pub cid_in : Option Channel → ℕ
cid_in None = NO_CHANNEL
cid_in (Some c) = c.cid

-- an EVENT_ADD without all of its fields: the ERROR says which channel it names
abbrev pub short_subscription : Gateway → ℕ → Header → Gateway
short_subscription w number head = request_refused number (cid_in (channel_of w number head.p1)) ECA_INTERNAL head w

-- why a subscription is refused though its updates could be had, the first reason that applies
abbrev pub subscription_limit : Gateway → ℕ → ℕ → Option ℕ
subscription_limit w number mask =
    if bit_and mask SERVED_EVENTS == 0 then Some ECA_BADMASK
    else if nat_le w.limits.subs (sub_count number w.clients) then Some ECA_ALLOCMEM
    else None

abbrev pub limit_unless : Option ℕ → Option ℕ → Option ℕ
limit_unless None limit = limit
limit_unless (Some code) limit = Some code

-- why a subscription is refused, the first reason that applies: its ID is taken, updates in its type
-- and count can't be had, it asks for no event, or there are as many as may be
abbrev pub subscription_refusal : Gateway → ClientSub → Native → Option ℕ
subscription_refusal w sub native =
    if is_some (sub_of w sub.session sub.id) then Some ECA_INTERNAL
    else limit_unless (value_refusal native sub.dtype sub.count) (subscription_limit w sub.session sub.mask)

-- what becomes of an EVENT_ADD on a channel, unless it is refused for this reason
abbrev pub sub_verdict_unless : Channel → Option ℕ → SubVerdict
sub_verdict_unless c None = Accepted
sub_verdict_unless c (Some code) = Refused c.cid code

-- what becomes of it by the channel's variable
abbrev pub sub_verdict_over : Gateway → ClientSub → Channel → Option ConnectedVariable → SubVerdict
sub_verdict_over w sub c None = Ignored
sub_verdict_over w sub c (Some v) = sub_verdict_unless c (subscription_refusal w sub v.native)

-- what becomes of it by the channel that it names
abbrev pub sub_verdict_on : Gateway → ClientSub → Option Channel → SubVerdict
sub_verdict_on w sub None = NoChannel
sub_verdict_on w sub (Some c) = sub_verdict_over w sub c (connected w c.real)

-- what becomes of an EVENT_ADD that asks for this subscription
abbrev pub sub_verdict : Gateway → ClientSub → SubVerdict
sub_verdict w sub = sub_verdict_on w sub (channel_of w sub.session sub.sid)

-- with one subscription more
abbrev pub with_sub : ClientSub → Gateway → Gateway
with_sub sub w = record w { clients = record w.clients { subs = w.clients.subs ++ sub ∷ [] } }

-- a subscription is told that its channel may not be read
abbrev pub unreadable_told : Gateway → ClientSub → Gateway
unreadable_told w sub = told sub.session (replies.UpdateRefused sub.id sub.dtype ECA_NORDACCESS) w

-- a new one is, at once, where that is wanted
abbrev pub told_if_unreadable : ClientSub → Gateway → Gateway
told_if_unreadable sub w =
    if w.limits.tells_unreadable && is_unreadable w (channel_of w sub.session sub.sid) then unreadable_told w sub else w

-- a new subscription is owed an update
abbrev pub new_sub : SessionNumber → Sid → SubId → Dtype → Count → Mask → ClientSub
new_sub number sid id dtype count mask = record {
  session = number;
  id = id;
  sid = sid;
  dtype = dtype;
  count = count;
  mask = mask;
  owed = true;
}

abbrev pub sub_judged : ClientSub → Header → SubVerdict → Gateway → Gateway
sub_judged sub head NoChannel w = no_channel w sub.session head
sub_judged sub head Ignored w = w
sub_judged sub head (Refused cid code) w = request_refused sub.session cid code head w
sub_judged sub head Accepted w = told_if_unreadable sub (with_sub sub w)

-- the client wants updates
abbrev pub subscription_asked : ClientSub → Header → Gateway → Gateway
subscription_asked sub head w = sub_judged sub head (sub_verdict w sub) w

-- EVENT_CANCEL

abbrev pub without_sub : ℕ → ℕ → Gateway → Gateway
without_sub number id w = record w { clients = record w.clients { subs = filter (is_not_sub number id) w.clients.subs } }

abbrev pub is_on_sid : ℕ → Option ClientSub → Bool
is_on_sid sid None = false
is_on_sid sid (Some sub) = sub.sid == sid

abbrev pub cancelled_on : SessionNumber → Sid → SubId → Dtype → Count → Header → Option Channel → Gateway → Gateway
cancelled_on number sid id dtype count head None w = no_channel w number head
cancelled_on number sid id dtype count head (Some c) w =
    if is_on_sid sid (sub_of w number id)
    then told number (replies.EventCancelled sid id dtype count) (without_sub number id w)
    else request_refused number c.cid ECA_INTERNAL head w

-- the client gives up a subscription, which must be on the channel that it names
abbrev pub subscription_cancelled : SessionNumber → Sid → SubId → Dtype → Count → Header → Gateway → Gateway
subscription_cancelled number sid id dtype count head w =
    cancelled_on number sid id dtype count head (channel_of w number sid) w

-- EVENTS_OFF and EVENTS_ON

abbrev pub with_pause : Bool → Session → Session
with_pause paused row = record row { paused = paused }

-- the client wants no updates for now, or wants them again
abbrev pub paused_to : ℕ → Bool → Gateway → Gateway
paused_to number paused w =
    record w { clients = record w.clients { sessions = change_first (is_numbered number) (with_pause paused) w.clients.sessions } }
