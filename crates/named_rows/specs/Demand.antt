-- What the rows of clients ask for of a real name, by the rights that their clients were last told: one by
-- one, and counted, which is the demand for it.
use Rattle.std.specs.Prelude.{◌≡◌, ◌≤◌, ◌+◌, ◌*◌, ℕ, List, [], ◌∷◌, ◌++◌, length, Bool, false, not, ◌&&◌, ◌||◌, ◌==◌, nat_lt, bit_and, bytes_eq, map, if◌then◌else◌, Option, Some, None, IfSome}
use Rattle.std.specs.List.{filter, find, list_any}
use Rattle.std.specs.Map.{lookup}
use Rattle.std.specs.Option.{unwrap_or}
use Rattle.dbr_layout.specs.Needs.{has_properties_by, is_text_by}
use Rattle.mask_merge.specs.declared.want.TheConstants.{ALWAYS_ASKED, PROPERTY_EVENT}
use Rattle.mask_merge.specs.declared.want.Ask.{Ask}
use Rattle.mask_merge.specs.declared.want.Want.{Want}
use Rattle.mask_merge.specs.Merged.{merged}
use Rattle.mask_merge.specs.Counts.{as_native, asks_props, wants_in, Counts, counted, counted_with, counted_without, exchanged, is_nothing, nothing_counted}
use Rattle.named_rows.specs.declared.asks.TheConstants.{READ_RIGHT}
use Rattle.named_rows.specs.declared.channels.Channel.{Channel}
use Rattle.named_rows.specs.declared.channels.Reach.{Reach}
use Rattle.named_rows.specs.declared.subs.ClientSub.{ClientSub}
use Rattle.named_rows.specs.Channels.{is_channel, is_on}
use Rattle.named_rows.specs.Indexes.{FollowReads, FollowSubs, ReadRows, SubRows, is_to}
use Rattle.named_rows.specs.Subs.{is_sub_on}

-- the rights let a client read
abbrev pub may_read : ℕ → Bool
may_read rights = bit_and rights READ_RIGHT == READ_RIGHT

-- the mask asks for what comes with a change of properties
abbrev pub names_properties : ℕ → Bool
names_properties mask = bit_and mask PROPERTY_EVENT == PROPERTY_EVENT

-- what a channel of this reach asks for by itself, where it asks for anything
abbrev pub reach_ask : Reach → Ask
reach_ask reach = record {
  want = record { mask = ALWAYS_ASKED; count = reach.count };
  props = reach.props;
  texts = false;
}

-- what a channel asks for by itself, where it has this reach and its client these rights: nothing where
-- it never read, or may not read
abbrev pub ask_of_reach : Reach → ℕ → Option Ask
ask_of_reach reach rights = if nat_lt 0 reach.count && may_read rights then Some (reach_ask reach) else None

-- what a channel asks for by itself
abbrev pub channel_ask : Channel → Option Ask
channel_ask channel = ask_of_reach channel.reach channel.rights_told

-- what a subscription asks for, where its client may read: properties where its mask names them or its
-- type has them, and texts where its type is one of texts
abbrev pub own_ask : ClientSub → Ask
own_ask sub = record {
  want = record { mask = sub.mask; count = sub.count };
  props = names_properties sub.mask || has_properties_by sub.dtype;
  texts = is_text_by sub.dtype;
}

-- what a subscription asks for: nothing where its client may not read
abbrev pub ask_of_sub : Bool → ClientSub → Option Ask
ask_of_sub reads sub = if reads then Some (own_ask sub) else None

-- whether a client may read over what was looked up: not where no channel stands
abbrev pub reads_over : Option Channel → Bool
reads_over None = false
reads_over (Some channel) = may_read channel.rights_told

-- what a subscription asks for, by the rights that the client was last told of its channel
abbrev pub sub_ask : List Channel → ClientSub → Option Ask
sub_ask channels sub = ask_of_sub (reads_over (find (is_channel sub.session sub.sid) channels)) sub

-- what the subscriptions to a real name and the channels on it ask for
abbrev pub asks_on : List Channel → List ClientSub → List ℕ → List (Option Ask)
asks_on channels subs name = map (sub_ask channels) (filter (is_to channels name) subs) ++ map channel_ask (filter (is_on name) channels)

-- what they want together, where the native count is this
abbrev pub want_on : List Channel → List ClientSub → ℕ → List ℕ → Option Want
want_on channels subs native name = merged (map (as_native native) (wants_in (asks_on channels subs name)))

-- any of them needs the properties of the variable, whose elements are states or are not
abbrev pub props_on : List Channel → List ClientSub → Bool → List ℕ → Bool
props_on channels subs states name = list_any (asks_props states) (asks_on channels subs name)

-- what is counted under a name
abbrev pub demand_of : List (List ℕ × Counts) → List ℕ → Counts
demand_of tallies name = unwrap_or (lookup (bytes_eq name) tallies) nothing_counted

-- somebody is counted under each name that is kept
abbrev pub CountSomebody : List (List ℕ × Counts) → Type 0
CountSomebody tallies = (name : List ℕ) → IfSome (lookup (bytes_eq name) tallies) (λ counts. is_nothing counts ≡ false)

-- the same, and so many spots for hints are at most four for each name, and 16
pub record IsKept (tallies : List (List ℕ × Counts)) (spots : ℕ) : Type 0 where
  pub somebody : CountSomebody tallies
  pub spare : spots ≤ 4 * length tallies + 16

-- the new counts are the old ones, but that those under this name are changed by f
abbrev pub ChangesDemand : List ℕ → (Counts → Counts) → List (List ℕ × Counts) → List (List ℕ × Counts) → Type 0
ChangesDemand name f old new = (n : List ℕ) → demand_of new n ≡ (if bytes_eq name n then f (demand_of old n) else demand_of old n)

-- each name has the same counts in both
abbrev pub SameDemand : List (List ℕ × Counts) → List (List ℕ × Counts) → Type 0
SameDemand old new = (n : List ℕ) → demand_of new n ≡ demand_of old n

-- what is counted, once subscriptions on one channel ask for what they do where its client may read, or may not
abbrev pub exchanged_on : Bool → Bool → ℕ → ℕ → ClientSub → Counts → Counts
exchanged_on before after session sid sub counts =
    if is_sub_on session sid sub then exchanged (ask_of_sub before sub) (ask_of_sub after sub) counts else counts

abbrev pub all_exchanged : Bool → Bool → ℕ → ℕ → List ClientSub → Counts → Counts
all_exchanged before after session sid [] counts = counts
all_exchanged before after session sid (sub ∷ subs) counts =
    all_exchanged before after session sid subs (exchanged_on before after session sid sub counts)

-- the client may read now where it might not, or the other way round
abbrev pub differs : Bool → Bool → Bool
differs before after = if before then not after else after

abbrev pub rights_exchanged : Bool → Bool → ℕ → ℕ → List ClientSub → Counts → Counts
rights_exchanged before after session sid subs counts =
    if differs before after then all_exchanged before after session sid subs counts else counts

-- what is counted under a channel's name, once it has another reach and its client other rights: of
-- these subscriptions those on it
abbrev pub recounted : Channel → Reach → ℕ → List ClientSub → Counts → Counts
recounted channel reach rights subs counts =
    exchanged (channel_ask channel) (ask_of_reach reach rights)
    (rights_exchanged (may_read channel.rights_told) (may_read rights) channel.session channel.sid subs counts)

-- each name has counted what the rows ask for of it
abbrev pub IsDemand : List Channel → List ClientSub → List (List ℕ × Counts) → Type 0
IsDemand channels subs tallies = (name : List ℕ) → demand_of tallies name ≡ counted (asks_on channels subs name)

-- what a channel that was looked up asks for is counted
abbrev pub IsCounted : Option Channel → List (List ℕ × Counts) → List (List ℕ × Counts) → Type 0
IsCounted None old new = SameDemand old new
IsCounted (Some channel) old new = ChangesDemand channel.real (counted_with (channel_ask channel)) old new

-- it is counted no longer
abbrev pub IsUncounted : Option Channel → List (List ℕ × Counts) → List (List ℕ × Counts) → Type 0
IsUncounted None old new = SameDemand old new
IsUncounted (Some channel) old new = ChangesDemand channel.real (counted_without (channel_ask channel)) old new

-- it and the subscriptions on it ask for what they do once it has another reach and its client other rights
abbrev pub IsRecounted : Option Channel → Reach → ℕ → List ClientSub → List (List ℕ × Counts) → List (List ℕ × Counts) → Type 0
IsRecounted None reach rights subs old new = SameDemand old new
IsRecounted (Some channel) reach rights subs old new =
    ChangesDemand channel.real (recounted channel reach rights subs) old new

-- what is counted under each name are the asks of some list
pub record IsCount (counts : Counts) : Type 0 where
  pub asks : List (Option Ask)
  pub is : counts ≡ counted asks

abbrev pub AreCounts : List (List ℕ × Counts) → Type 0
AreCounts tallies = (name : List ℕ) → IsCount (demand_of tallies name)

-- subscriptions and waiting reads follow their channels, and so does what is counted under each name
pub record FollowRows (channels : List Channel) (subs : SubRows) (reads : ReadRows) (tallies : List (List ℕ × Counts)) : Type 0 where
  pub subs_follow : FollowSubs channels subs
  pub reads_follow : FollowReads channels reads
  pub demand : IsDemand channels subs.rows tallies
