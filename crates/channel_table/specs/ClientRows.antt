-- The value of the table of clients.
use Rattle.std.specs.Prelude.{ℕ, List, Bool}
use Rattle.std.specs.List.{list_any, count_by, find}
use Rattle.named_rows.specs.declared.channels.Channel.{Channel}
use Rattle.named_rows.specs.declared.reads.WaitingRead.{WaitingRead}
use Rattle.channel_table.specs.declared.sessions.Session.{Session}
use Rattle.named_rows.specs.declared.subs.ClientSub.{ClientSub}
use Rattle.named_rows.specs.Channels.{is_channel, is_channel_of, is_channel_on}
use Rattle.named_rows.specs.Reads.{is_read_of}
use Rattle.channel_table.specs.Sessions.{is_numbered}
use Rattle.named_rows.specs.Subs.{is_sub, is_sub_of}

-- the rows of clients, each list in the order in which they were added
pub record ClientRows : Type 0 where
  pub sessions : List Session
  pub channels : List Channel
  pub subs : List ClientSub
  pub reads : List WaitingRead

-- whether the session stands
abbrev pub has_session : ℕ → ClientRows → Bool
has_session number rows = list_any (is_numbered number) rows.sessions

-- whether the session's channel of this ID stands
abbrev pub has_channel : ℕ → ℕ → ClientRows → Bool
has_channel session sid rows = list_any (is_channel session sid) rows.channels

-- whether the session's subscription of this ID stands
abbrev pub has_sub : ℕ → ℕ → ClientRows → Bool
has_sub session id rows = list_any (is_sub session id) rows.subs

-- how many channels of the session stand
abbrev pub channel_count : ℕ → ClientRows → ℕ
channel_count session rows = count_by (is_channel_of session) rows.channels

-- how many subscriptions of the session stand
abbrev pub sub_count : ℕ → ClientRows → ℕ
sub_count session rows = count_by (is_sub_of session) rows.subs

-- how many reads of the session wait
abbrev pub read_count : ℕ → ClientRows → ℕ
read_count session rows = count_by (is_read_of session) rows.reads

-- the subscription's channel stands, and is on this real name
abbrev pub is_sub_to : ClientRows → List ℕ → ClientSub → Bool
is_sub_to rows name sub = is_channel_on name (find (is_channel sub.session sub.sid) rows.channels)

-- the read's channel stands, and is on this real name
abbrev pub is_read_for : ClientRows → List ℕ → WaitingRead → Bool
is_read_for rows name read = is_channel_on name (find (is_channel read.session read.sid) rows.channels)
