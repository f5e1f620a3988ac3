-- How the table keeps rows: each under its key, and the keys in lists by real names and by the IDs of channels.
use Rattle.std.specs.Prelude.{◌≡◌, ℕ, List, Bool, true, not, ◌==◌, nat_eq, bytes_eq, map, filter, filter_map, length, Option, Some, None}
use Rattle.std.specs.List.{find, flat_map, list_any, list_all}
use Rattle.row_index.specs.declared.key.Key.{Key}
use Rattle.row_index.specs.Lists.{is_key, listed, of, AddsTo, RemovesFrom, RemovesFromOwner, SameLists, SameOwnerLists}
use Rattle.row_index.specs.Rows.{same_key, row_of, HasKeysApart}
use Rattle.named_rows.specs.declared.channels.Channel.{Channel}
use Rattle.named_rows.specs.declared.reads.KeptRead.{KeptRead}
use Rattle.named_rows.specs.declared.reads.WaitingRead.{WaitingRead}
use Rattle.named_rows.specs.declared.subs.ClientSub.{ClientSub}
use Rattle.named_rows.specs.Channels.{is_channel, is_on, is_channel_on}
use Rattle.named_rows.specs.Reads.{is_read_on, same_read}

-- the key of a channel
abbrev pub channel_key : Channel → Key
channel_key channel = record { owner = channel.session; id = channel.sid }

-- the key of a subscription
abbrev pub sub_key : ClientSub → Key
sub_key sub = record { owner = sub.session; id = sub.id }

-- the key of a waiting read, under the ID that the table gave it
abbrev pub read_key : KeptRead → Key
read_key row = record { owner = row.read.session; id = row.id }

-- the key of the channel that a subscription is on
abbrev pub sub_home : ClientSub → Key
sub_home sub = record { owner = sub.session; id = sub.sid }

-- the key of the channel that a read waits on
abbrev pub read_home : KeptRead → Key
read_home row = record { owner = row.read.session; id = row.read.sid }

-- the rows, each under its key
abbrev pub keyed : {V : Type 0} → (V → Key) → List V → List (Key × V)
keyed key rows = map (λ row. (key row, row)) rows

-- the entry with its row changed
abbrev pub changed_by : {V : Type 0} → (V → V) → Key × V → Key × V
changed_by f entry = (entry.0, f entry.1)

-- no two rows have the same key
abbrev pub IsApart : {V : Type 0} → (V → Key) → List V → Type 0
IsApart key rows = HasKeysApart (keyed key rows)

-- rows, and the lists of their keys by names
pub record ListedRows (V : Type 0) : Type 0 where
  pub rows : List V
  pub on : List (List ℕ × List Key)

-- subscriptions, listed by the real names that they lead to
abbrev pub SubRows : Type 0
SubRows = ListedRows ClientSub

-- waiting reads, listed by the real names that they wait for
abbrev pub ReadRows : Type 0
ReadRows = ListedRows KeptRead

module _ {V : Type 0} (key : V → Key) where
  -- the row of this key
  abbrev pub is_at : Key → V → Bool
  is_at k row = same_key (key row) k

  -- another
  abbrev pub is_not_at : Key → V → Bool
  is_not_at k row = not (is_at k row)

  -- a row of one of these keys
  abbrev pub is_one_of : List Key → V → Bool
  is_one_of keys row = list_any (λ k. same_key (key row) k) keys

  -- a row of this owner
  abbrev pub is_owned : ℕ → V → Bool
  is_owned owner row = (key row).owner == owner

-- the read of a row
abbrev pub read_in : KeptRead → WaitingRead
read_in row = row.read

-- the reads of the rows
abbrev pub reads_in : ReadRows → List WaitingRead
reads_in reads = map read_in reads.rows

-- the read under this key
abbrev pub is_kept : Key → KeptRead → Bool
is_kept key row = same_key (read_key row) key

-- another
abbrev pub is_not_kept : Key → KeptRead → Bool
is_not_kept key row = not (is_kept key row)

-- the read of a row is on the session's channel of this ID
abbrev pub is_kept_on : ℕ → ℕ → KeptRead → Bool
is_kept_on session sid row = is_read_on session sid row.read

-- the read of a row is equal to this one
abbrev pub is_kept_like : WaitingRead → KeptRead → Bool
is_kept_like read row = same_read read row.read

-- a row whose channel, of the key home, stands
abbrev pub hangs : {V : Type 0} → (V → Key) → List Channel → V → Bool
hangs home channels row = list_any (is_channel (home row).owner (home row).id) channels

-- a row whose channel stands, and is on this real name
abbrev pub leads : {V : Type 0} → (V → Key) → List Channel → List ℕ → V → Bool
leads home channels name row = is_channel_on name (find (is_channel (home row).owner (home row).id) channels)

-- the subscription's channel stands
abbrev pub is_standing : List Channel → ClientSub → Bool
is_standing channels sub = list_any (is_channel sub.session sub.sid) channels

-- the subscription's channel stands, and is on this real name
abbrev pub is_to : List Channel → List ℕ → ClientSub → Bool
is_to channels name sub = is_channel_on name (find (is_channel sub.session sub.sid) channels)

-- each name, of any kind, has the keys of the rows that pass its test, in the order of the rows
abbrev pub AreListedBy : {V N : Type 0} → (N → N → Bool) → (V → Key) → (N → V → Bool) → List V → List (N × List Key) → Type 0
AreListedBy eq key test rows lists = (name : _) → listed eq lists name ≡ map key (filter (test name) rows)

-- each real name has them
abbrev pub AreListed : {V : Type 0} → (V → Key) → (List ℕ → V → Bool) → List V → List (List ℕ × List Key) → Type 0
AreListed key test rows lists = AreListedBy bytes_eq key test rows lists

module _ {V : Type 0} (home : V → Key) where
  -- a row that names this ID of a channel, whosever that is
  abbrev pub has_sid : ℕ → V → Bool
  has_sid sid row = (home row).id == sid

  -- the key of a row that was found is listed no longer under the ID of its channel
  abbrev pub IsUnlistedBySid : Option V → Key → List (ℕ × List Key) → List (ℕ × List Key) → Type 0
  IsUnlistedBySid None key old new = SameOwnerLists old new
  IsUnlistedBySid (Some row) key old new = RemovesFromOwner (home row).id key old new

-- each ID of a channel has the keys of the rows that name it
abbrev pub AreBySid : {V : Type 0} → (V → Key) → (V → Key) → List V → List (ℕ × List Key) → Type 0
AreBySid key home rows lists = AreListedBy nat_eq key (has_sid home) rows lists

-- the row that a key finds
abbrev pub row_at : {V : Type 0} → (V → Key) → List V → Option Key → Option V
row_at key rows None = None
row_at key rows (Some k) = find (λ row. same_key (key row) k) rows

-- the rows that keys find
abbrev pub rows_at : {V : Type 0} → (V → Key) → List V → List Key → List V
rows_at key rows keys = filter_map (λ k. find (λ row. same_key (key row) k) rows) keys

-- the rows are each under its key
abbrev pub IsUnderKeys : {V : Type 0} → (V → Key) → List (Key × V) → Type 0
IsUnderKeys key entries = entries ≡ keyed key (map row_of entries)

-- each name has the keys of the channels on it
abbrev pub AreChannelsListed : ListedRows Channel → Type 0
AreChannelsListed channels = AreListed channel_key is_on channels.rows channels.on

-- the keys of the channels on these names, those of one name after the other
abbrev pub channel_keys_on : List (List ℕ) → List Channel → List Key
channel_keys_on names channels = flat_map (λ name. map channel_key (filter (is_on name) channels)) names

module _ {V : Type 0} (name : V → List ℕ) where
  -- the key of a row that was found isn't listed under its own name
  abbrev pub IsUnlisted : Option V → Key → List (List ℕ × List Key) → Type 0
  IsUnlisted None key lists = Unit {0}
  IsUnlisted (Some row) key lists = length (filter (is_key key) (of lists (name row))) ≡ 0

  -- it is listed there now
  abbrev pub IsListedOn : Option V → Key → List (List ℕ × List Key) → List (List ℕ × List Key) → Type 0
  IsListedOn None key old new = SameLists old new
  IsListedOn (Some row) key old new = AddsTo (name row) key old new

  -- it is listed there no longer
  abbrev pub IsUnlistedOn : Option V → Key → List (List ℕ × List Key) → List (List ℕ × List Key) → Type 0
  IsUnlistedOn None key old new = SameLists old new
  IsUnlistedOn (Some row) key old new = RemovesFrom (name row) key old new

-- each row's channel, of the key home, stands, and each name has the keys of the rows that lead to it
module _ {V : Type 0} (key home : V → Key) where
  pub record FollowChannels (channels : List Channel) (rows : List V) (on : List (List ℕ × List Key)) : Type 0 where
    pub standing : list_all (hangs home channels) rows ≡ true
    pub listed : AreListed key (leads home channels) rows on

-- the subscriptions follow their channels
abbrev pub FollowSubs : List Channel → SubRows → Type 0
FollowSubs channels subs = FollowChannels sub_key sub_home channels subs.rows subs.on

-- the waiting reads follow their channels
abbrev pub FollowReads : List Channel → ReadRows → Type 0
FollowReads channels reads = FollowChannels read_key read_home channels reads.rows reads.on
