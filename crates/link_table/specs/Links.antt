-- The rows of links.
use Rattle.std.specs.Prelude.{◌≡◌, IfSome, ℕ, ◌+◌, ◌≤◌, nat_lt, List, [], ◌∷◌, Bool, false, not, ◌&&◌, ◌||◌, ◌==◌, bytes_eq, Option, Some, None, if◌then◌else◌}
use Rattle.std.specs.List.{count_by, find, list_any}
use Rattle.std.specs.Option.{option_and_then}
use Rattle.link_table.specs.declared.links.LinkRow.{LinkRow}
use Rattle.link_table.specs.declared.links.LinkState.{LinkState}
use Rattle.link_table.specs.declared.links.LinkState.TheVariants.{Creating}
use Rattle.link_table.specs.declared.links.Subject.{Subject}
use Rattle.link_table.specs.declared.links.Subject.TheVariants.{Values, Properties}
use Rattle.link_table.specs.declared.links.Subscription.{Subscription}
use Rattle.link_table.specs.declared.links.Subscriptions.{Subscriptions}

-- a link of this server
abbrev pub is_of : ℕ → LinkRow → Bool
is_of server row = row.server == server

-- a link of another
abbrev pub is_not_of : ℕ → LinkRow → Bool
is_not_of server row = not (is_of server row)

-- the link of this server with this ID
abbrev pub is_link : ℕ → ℕ → LinkRow → Bool
is_link server cid row = is_of server row && row.cid == cid

-- another link
abbrev pub is_not_link : ℕ → ℕ → LinkRow → Bool
is_not_link server cid row = not (is_link server cid row)

-- the link for the variable of this name
abbrev pub is_named : List ℕ → LinkRow → Bool
is_named name row = bytes_eq row.name name

-- a link for one of these
abbrev pub is_named_any : List (List ℕ) → LinkRow → Bool
is_named_any names row = list_any (λ name. bytes_eq name row.name) names

-- a subscription of this ID
abbrev pub has_id : ℕ → Option Subscription → Bool
has_id id (Some subscription) = subscription.id == id
has_id id None = false

-- the subscription on a subject
abbrev pub sub_at : Subject → Subscriptions → Option Subscription
sub_at Values subs = subs.values
sub_at Properties subs = subs.properties

-- with this subscription on a subject, or without one
abbrev pub with_at : Subject → Option Subscription → Subscriptions → Subscriptions
with_at Values sub subs = record subs { values = sub }
with_at Properties sub subs = record subs { properties = sub }

-- no subscription
abbrev pub none_yet : Subscriptions
none_yet = record { values = None; properties = None }

-- the link of this server whose present subscription on this subject has this ID
abbrev pub has_sub_to : Subject → ℕ → ℕ → LinkRow → Bool
has_sub_to subject server id row = is_of server row && has_id id (sub_at subject row.subscriptions)

-- the link of this server of which a present subscription has this ID
abbrev pub has_subscription : ℕ → ℕ → LinkRow → Bool
has_subscription server id row = has_sub_to Values server id row || has_sub_to Properties server id row

-- with this state and these access rights
abbrev pub with_state : LinkState → ℕ → LinkRow → LinkRow
with_state state rights row = record row { state = state; rights = rights }

-- with this subscription on a subject, or without one
abbrev pub with_subscription : Subject → Option Subscription → LinkRow → LinkRow
with_subscription subject sub row = record row { subscriptions = with_at subject sub row.subscriptions }

-- the link of this server has a subscription of this ID, beside the one on this subject of the link of this CID
abbrev pub has_other_sub : ℕ → ℕ → Subject → ℕ → LinkRow → Bool
has_other_sub server cid subject id row =
    has_subscription server id (if is_link server cid row then with_subscription subject None row else row)

-- no other subscription to a server has the ID of a present one
abbrev pub HasIdsApart : List LinkRow → Type 0
HasIdsApart links =
    (server cid : ℕ) (subject : Subject)
    → IfSome (option_and_then (λ row. sub_at subject row.subscriptions) (find (is_link server cid) links))
    (λ sub. list_any (has_other_sub server cid subject sub.id) links ≡ false)

-- a link of a lower CID
abbrev pub is_below : ℕ → LinkRow → Bool
is_below cid row = nat_lt row.cid cid

-- exactly n of the links have a lower CID than this one
abbrev pub has_below : ℕ → List LinkRow → LinkRow → Bool
has_below n links row = count_by (is_below row.cid) links == n

-- the nth link by rising CID, counted from 0
abbrev pub nth_by_cid : ℕ → List LinkRow → Option LinkRow
nth_by_cid n links = find (has_below n links) links

-- links stand in the order of their CIDs, each CID once and none below this one
abbrev pub CidsRiseFrom : ℕ → List LinkRow → Type 0
CidsRiseFrom low [] = Unit {0}
CidsRiseFrom low (row ∷ rows) = (low ≤ row.cid) × CidsRiseFrom (row.cid + 1) rows

-- the second subscription has the ID of the first
abbrev pub is_same_id : Option Subscription → Option Subscription → Bool
is_same_id was (Some sub) = has_id sub.id was
is_same_id was None = false

-- a link of which the server is just asked for the channel
abbrev pub new_link : ℕ → ℕ → List ℕ → LinkRow
new_link server cid name = record {
  cid = cid;
  server = server;
  name = name;
  state = Creating;
  rights = 0;
  subscriptions = none_yet;
}
