-- What every state that a run reaches has: nobody is owed anything.
use Rattle.std.specs.Prelude.{◌≡◌, ℕ, ◌≤◌, List, [], ◌∷◌, length, filter, Bool, true, false, not, ◌||◌, ◌==◌, nat_lt, Option, Some, None, option_map}
use Rattle.std.specs.List.{find, list_all, list_any}
use Rattle.named_rows.specs.declared.channels.Channel.{Channel}
use Rattle.named_rows.specs.declared.reads.WaitingRead.{WaitingRead}
use Rattle.channel_table.specs.declared.sessions.Session.{Session}
use Rattle.named_rows.specs.declared.subs.ClientSub.{ClientSub}
use Rattle.named_rows.specs.Channels.{is_channel}
use Rattle.channel_table.specs.ClientRows.{has_channel}
use Rattle.channel_table.specs.Sessions.{is_numbered}
use Rattle.named_rows.specs.Subs.{is_sub}
use Rattle.link_table.specs.declared.links.LinkRow.{LinkRow}
use Rattle.link_table.specs.declared.links.LinkState.{LinkState}
use Rattle.link_table.specs.declared.links.LinkState.TheVariants.{Creating, Connected, Unusable}
use Rattle.link_table.specs.declared.links.Subject.{Subject}
use Rattle.link_table.specs.declared.links.Subscription.{Subscription}
use Rattle.link_table.specs.declared.writes.WaitingWrite.{WaitingWrite}
use Rattle.link_table.specs.LinkRows.{has_server}
use Rattle.link_table.specs.Links.{has_subscription, is_named, is_same_id, sub_at}
use Rattle.link_table.specs.Numbers.{has_cid_below, has_id_below, has_write_id_below, is_of_cid, AreBelow}
use Rattle.link_table.specs.Writes.{is_write}
use Rattle.mask_merge.specs.declared.want.Want.{Want}
use Rattle.gateway_state.specs.declared.event.Dest.TheVariants as dests
use Rattle.gateway_state.specs.declared.interest.Sub.{Sub}
use Rattle.gateway_state.specs.declared.reading.Native.{Native}
use Rattle.gateway_state.specs.Answer.{cached_value, native_in}
use Rattle.gateway_state.specs.Asked.{is_open}
use Rattle.gateway_state.specs.Gateway.{Gateway}
use Rattle.gateway_state.specs.Interest.{interest_of, subscription_of, subscription_to, wanted_for}
use Rattle.gateway_state.specs.Notices.{channel_notices, link_notices, read_notices}
use Rattle.gateway_state.specs.Rights.{channel_of, is_served, may_read, rights_of}
use Rattle.gateway_state.specs.Updates.{is_open_to, is_unreadable, update_notices, update_on, withheld}
use Rattle.gateway_state.specs.Variables.{is_connected, is_wanted, link_of}

-- no pass over the rows has anything to tell
pub record IsSettled (w : Gateway) : Type 0 where
  pub channels : channel_notices w ≡ []
  pub held_back : withheld w ≡ []
  pub links : link_notices w ≡ []
  pub reads : read_notices w ≡ []
  pub updates : update_notices w ≡ []

-- no two rows are alike, by this test
abbrev pub AreUnlike : {A : Type 0} → (A → A → Bool) → List A → Type 0
AreUnlike alike [] = Unit {0}
AreUnlike alike (row ∷ rows) = (list_any (alike row) rows ≡ false) × AreUnlike alike rows

-- a channel of the same session under the same number
abbrev pub is_same_channel : Channel → Channel → Bool
is_same_channel c other = is_channel c.session c.sid other

-- a link of the same number
abbrev pub is_same_link : LinkRow → LinkRow → Bool
is_same_link link other = is_of_cid link.cid other

-- a write to the same server under the same ID
abbrev pub is_same_write : WaitingWrite → WaitingWrite → Bool
is_same_write write other = is_write write.server write.id other

-- a link of which a subscription to this server has the ID of this one
abbrev pub is_sharing : ℕ → Option Subscription → LinkRow → Bool
is_sharing server None other = false
is_sharing server (Some sub) other = has_subscription server sub.id other

-- a link of the same server that has a subscription under the ID of one of this link's
abbrev pub shares_id : LinkRow → LinkRow → Bool
shares_id link other =
    is_sharing link.server link.subscriptions.values other || is_sharing link.server link.subscriptions.properties other

-- the link's own subscriptions have different IDs
abbrev pub has_two_ids : LinkRow → Bool
has_two_ids link = not (is_same_id link.subscriptions.values link.subscriptions.properties)

abbrev pub has_sid_below : ℕ → Channel → Bool
has_sid_below next c = nat_lt c.sid next

-- no channel of a session has the number of another
pub record AreSidsApart (again : Bool) (next : ℕ) (channels : List Channel) : Type 0 where
  pub apart : AreUnlike is_same_channel channels
  pub below : AreBelow again (has_sid_below next) channels

abbrev pub HasSidsApart : Gateway → Type 0
HasSidsApart w = AreSidsApart w.upstream.counters.again.sid w.upstream.counters.sid w.clients.channels

-- no link has the number of another
pub record AreCidsApart (again : Bool) (next : ℕ) (links : List LinkRow) : Type 0 where
  pub apart : AreUnlike is_same_link links
  pub below : AreBelow again (has_cid_below next) links

abbrev pub HasCidsApart : Gateway → Type 0
HasCidsApart w = AreCidsApart w.upstream.counters.again.cid w.upstream.counters.cid w.upstream.links

-- no subscription to a server has the ID of another
pub record AreSubIdsApart (again : Bool) (next : ℕ) (links : List LinkRow) : Type 0 where
  pub own : list_all has_two_ids links ≡ true
  pub apart : AreUnlike shares_id links
  pub below : AreBelow again (has_id_below next) links

abbrev pub HasSubIdsApart : Gateway → Type 0
HasSubIdsApart w = AreSubIdsApart w.upstream.counters.again.subscription w.upstream.counters.subscription w.upstream.links

-- no write to a server has the ID of another
pub record AreWriteIdsApart (again : Bool) (next : ℕ) (writes : List WaitingWrite) : Type 0 where
  pub apart : AreUnlike is_same_write writes
  pub below : AreBelow again (has_write_id_below next) writes

abbrev pub HasWriteIdsApart : Gateway → Type 0
HasWriteIdsApart w = AreWriteIdsApart w.upstream.counters.again.write w.upstream.counters.write w.upstream.writes

-- numbers tell rows apart
pub record AreNumbersApart (w : Gateway) : Type 0 where
  pub channels : HasSidsApart w
  pub links : HasCidsApart w
  pub subscriptions : HasSubIdsApart w
  pub writes : HasWriteIdsApart w

-- no name has two links
abbrev pub HasLinksApart : Gateway → Type 0
HasLinksApart w = (name : List ℕ) → length (filter (is_named name) w.upstream.links) ≤ 1

-- the link's server stands
abbrev pub is_on_server : Gateway → LinkRow → Bool
is_on_server w link = is_open w (dests.Upstream link.server)

-- each link belongs to a server that stands
abbrev pub HasLinksOnServers : Gateway → Type 0
HasLinksOnServers w = list_all (is_on_server w) w.upstream.links ≡ true

-- the link's server has a row
abbrev pub has_server_row : Gateway → LinkRow → Bool
has_server_row w link = has_server link.server w.upstream

-- each link's server has a row
abbrev pub HasServersOfLinks : Gateway → Type 0
HasServersOfLinks w = list_all (has_server_row w) w.upstream.links ≡ true

-- the session has a connection
abbrev pub is_session_connected : Gateway → Session → Bool
is_session_connected w row = is_open w (dests.Session row.number)

-- each session has a connection
abbrev pub HasSessionsConnected : Gateway → Type 0
HasSessionsConnected w = list_all (is_session_connected w) w.clients.sessions ≡ true

-- the session stands, and its host is fixed
abbrev pub is_host_fixed : Option Session → Bool
is_host_fixed None = false
is_host_fixed (Some row) = row.host_fixed

-- the channel's session stands, and its host is fixed
abbrev pub has_host_fixed : Gateway → Channel → Bool
has_host_fixed w c = is_host_fixed (find (is_numbered c.session) w.clients.sessions)

-- each channel belongs to a session whose host is fixed
abbrev pub HasHostsFixed : Gateway → Type 0
HasHostsFixed w = list_all (has_host_fixed w) w.clients.channels ≡ true

-- no session has two subscriptions under one ID
abbrev pub AreApart : List ClientSub → Type 0
AreApart [] = Unit {0}
AreApart (sub ∷ subs) = (list_any (is_sub sub.session sub.id) subs ≡ false) × AreApart subs

abbrev pub HasSubsApart : Gateway → Type 0
HasSubsApart w = AreApart w.clients.subs

-- the read is on a channel that stands
abbrev pub is_on_channel : Gateway → WaitingRead → Bool
is_on_channel w read = has_channel read.session read.sid w.clients

abbrev pub HasReadsOnChannels : Gateway → Type 0
HasReadsOnChannels w = list_all (is_on_channel w) w.clients.reads ≡ true

-- the subscription is on a channel that stands
abbrev pub is_sub_on_channel : Gateway → ClientSub → Bool
is_sub_on_channel w sub = has_channel sub.session sub.sid w.clients

abbrev pub HasSubsOnChannels : Gateway → Type 0
HasSubsOnChannels w = list_all (is_sub_on_channel w) w.clients.subs ≡ true

-- the link of the variable that a channel is on
abbrev pub link_under : Gateway → Option Channel → Option LinkRow
link_under w None = None
link_under w (Some c) = link_of w c.real

abbrev pub is_of_server : ℕ → Option LinkRow → Bool
is_of_server server None = false
is_of_server server (Some link) = link.server == server

-- the write waits on a channel that stands, for the server of its link
abbrev pub is_write_on_link : Gateway → WaitingWrite → Bool
is_write_on_link w write = is_of_server write.server (link_under w (channel_of w write.session write.sid))

abbrev pub HasWritesOnLinks : Gateway → Type 0
HasWritesOnLinks w = list_all (is_write_on_link w) w.upstream.writes ≡ true

-- a channel is served, and has the rights that its client was last told
pub record IsUpToDate (w : Gateway) (c : Channel) : Type 0 where
  pub served : is_served w c ≡ true
  pub rights : c.rights_told ≡ rights_of w c

-- what a subscription is for
abbrev pub want_in : Subscription → Want
want_in sub = record { mask = sub.mask; count = sub.count }

abbrev pub native_count_in : LinkState → ℕ
native_count_in Creating = 0
native_count_in (Connected sid dtype count) = count
native_count_in Unusable = 0

abbrev pub native_type_in : LinkState → ℕ
native_type_in Creating = 0
native_type_in (Connected sid dtype count) = dtype
native_type_in Unusable = 0

-- what a variable's subscription is for
abbrev pub want_of : Sub → Want
want_of sub = record { mask = sub.mask; count = sub.count }

abbrev pub native_count_over : Option LinkRow → ℕ
native_count_over None = 0
native_count_over (Some link) = native_count_in link.state

-- a variable's native count, 0 where it isn't connected
abbrev pub native_count_of : Gateway → List ℕ → ℕ
native_count_of w name = native_count_over (link_of w name)

abbrev pub native_type_over : Option LinkRow → ℕ
native_type_over None = 0
native_type_over (Some link) = native_type_in link.state

-- a variable's native type, 0 where it isn't connected
abbrev pub native_type_of : Gateway → List ℕ → ℕ
native_type_of w name = native_type_over (link_of w name)

-- each variable has a subscription upstream for a subject exactly for what its readers want of it
abbrev pub IsSubscribedTo : Subject → Gateway → Type 0
IsSubscribedTo subject w = (name : List ℕ)
    → option_map want_of (subscription_to subject w name)
    ≡ wanted_for subject w name (native_type_of w name) (native_count_of w name)

-- each variable has a subscription upstream exactly for what its readers want together, and none where
-- nobody reads it
abbrev pub IsSubscribedExactly : Gateway → Type 0
IsSubscribedExactly w = (name : List ℕ)
    → option_map want_of (subscription_of w name) ≡ interest_of w name (native_count_of w name)

-- a link is wanted, and where it is connected it has a subscription for each subject exactly for what is
-- wanted of it
pub record IsInUse (w : Gateway) (link : LinkRow) : Type 0 where
  pub wanted : is_wanted w link.name ≡ true
  pub subscribed : is_connected link.state ≡ true → (subject : Subject)
      → option_map want_in (sub_at subject link.subscriptions)
      ≡ wanted_for subject w link.name (native_type_in link.state) (native_count_in link.state)

-- a subscription is owed an update as long as its channel may not be read; and where one is owed, its
-- session takes none now, its channel may not be read, or what was told last doesn't cover it
pub record IsKeptPosted (w : Gateway) (sub : ClientSub) : Type 0 where
  pub owed : is_unreadable w (channel_of w sub.session sub.sid) ≡ true → sub.owed ≡ true
  pub waits : sub.owed ≡ true → is_open_to w sub ≡ true → update_on w sub (channel_of w sub.session sub.sid) ≡ None

-- a read waits for its value: its channel may be read, over a connected link, and what this was told
-- last doesn't cover it
pub record IsWaiting (w : Gateway) (read : WaitingRead) : Type 0 where
  pub channel : Channel
  pub link : LinkRow
  pub native : Native
  pub on : channel_of w read.session read.sid ≡ Some channel
  pub over : link_of w channel.real ≡ Some link
  pub connected : native_in link.state ≡ Some native
  pub readable : may_read (rights_of w channel) ≡ true
  pub uncovered : cached_value w link.cid native.count read.dtype read.count ≡ None
