-- The numbers that rows have, and those that new rows are given: each one that no row of its kind has.
use Rattle.std.specs.Prelude.{◌≡◌, ℕ, List, [], ◌∷◌, ◌++◌, map, Bool, true, false, ◌&&◌, ◌==◌, nat_lt, Option, Some, None, if◌then◌else◌}
use Rattle.std.specs.List.{filter, flat_map, list_all, list_any}
use Rattle.link_table.specs.declared.counter.Counter.{Counter}
use Rattle.link_table.specs.declared.counter.Counter.TheVariants.{Sid, Cid, Subscription as Sub, Write}
use Rattle.link_table.specs.declared.counter.TheConstants.{LAST_NUMBER}
use Rattle.link_table.specs.declared.links.LinkRow.{LinkRow}
use Rattle.link_table.specs.declared.links.Subscription.{Subscription}
use Rattle.link_table.specs.declared.writes.WaitingWrite.{WaitingWrite}
use Rattle.link_table.specs.Counters.{began_again, counter_of, next_number}
use Rattle.link_table.specs.LinkRows.{LinkRows}
use Rattle.link_table.specs.Links.{has_subscription, is_of}
use Rattle.link_table.specs.Writes.{is_write, is_write_to}

-- WHAT ROWS HAVE

-- a link of this number, whichever its server is
abbrev pub is_of_cid : ℕ → LinkRow → Bool
is_of_cid cid link = link.cid == cid

abbrev pub cid_of : LinkRow → ℕ
cid_of link = link.cid

abbrev pub ids_in : Option Subscription → List ℕ
ids_in None = []
ids_in (Some sub) = sub.id ∷ []

-- the IDs of a link's subscriptions
abbrev pub sub_ids : LinkRow → List ℕ
sub_ids link = ids_in link.subscriptions.values ++ ids_in link.subscriptions.properties

abbrev pub id_of : WaitingWrite → ℕ
id_of write = write.id

-- whether a row has the number: any link, or a subscription or a write to this server. Channels stand in another table
abbrev pub is_had : Counter → ℕ → LinkRows → ℕ → Bool
is_had Sid server rows number = false
is_had Cid server rows number = list_any (is_of_cid number) rows.links
is_had Sub server rows number = list_any (has_subscription server number) rows.links
is_had Write server rows number = list_any (is_write server number) rows.writes

-- the numbers that rows have
abbrev pub numbers_had : Counter → ℕ → LinkRows → List ℕ
numbers_had Sid server rows = []
numbers_had Cid server rows = map cid_of rows.links
numbers_had Sub server rows = flat_map sub_ids (filter (is_of server) rows.links)
numbers_had Write server rows = map id_of (filter (is_write_to server) rows.writes)

-- WHAT NEW ROWS ARE GIVEN

-- the number of the next row of a kind
abbrev pub next_of : Counter → Bool → ℕ → ℕ → LinkRows → ℕ
next_of counter reuses first server rows =
    next_number reuses first (began_again counter rows.counters) (is_had counter server rows) (numbers_had counter server rows) (counter_of counter rows.counters)

-- the number of the next link
abbrev pub next_cid : Bool → ℕ → LinkRows → ℕ
next_cid reuses first rows =
    next_number reuses first rows.counters.again.cid (λ cid. list_any (is_of_cid cid) rows.links) (map cid_of rows.links) rows.counters.cid

-- the ID of the next subscription to a server
abbrev pub next_sub_id : Bool → ℕ → ℕ → LinkRows → ℕ
next_sub_id reuses first server rows =
    next_number reuses first rows.counters.again.subscription (λ id. list_any (has_subscription server id) rows.links)
    (flat_map sub_ids (filter (is_of server) rows.links)) rows.counters.subscription

-- the ID of the next write to a server
abbrev pub next_write_id : Bool → ℕ → ℕ → LinkRows → ℕ
next_write_id reuses first server rows =
    next_number reuses first rows.counters.again.write (λ id. list_any (is_write server id) rows.writes) (map id_of (filter (is_write_to server) rows.writes))
    rows.counters.write

-- the number, if it can be given out
abbrev pub fitting : ℕ → Option ℕ
fitting number = if nat_lt LAST_NUMBER number then None else Some number

-- the same of one that may not be there
abbrev pub fitting_one : Option ℕ → Option ℕ
fitting_one None = None
fitting_one (Some number) = fitting number

-- BELOW THE COUNTERS

abbrev pub has_cid_below : ℕ → LinkRow → Bool
has_cid_below next link = nat_lt link.cid next

abbrev pub is_sub_below : ℕ → Option Subscription → Bool
is_sub_below next None = true
is_sub_below next (Some sub) = nat_lt sub.id next

-- the link's subscriptions have IDs below this one
abbrev pub has_id_below : ℕ → LinkRow → Bool
has_id_below next link = is_sub_below next link.subscriptions.values && is_sub_below next link.subscriptions.properties

abbrev pub has_write_id_below : ℕ → WaitingWrite → Bool
has_write_id_below next write = nat_lt write.id next

-- as long as a counter didn't begin again, all rows have numbers below it
abbrev pub AreBelow : {A : Type 0} → Bool → (A → Bool) → List A → Type 0
AreBelow again below rows = again ≡ false → list_all below rows ≡ true

-- the same of the rows that a counter numbers
abbrev pub AreNumbersBelow : Counter → LinkRows → Type 0
AreNumbersBelow Sid rows = Unit {0}
AreNumbersBelow Cid rows = AreBelow rows.counters.again.cid (has_cid_below rows.counters.cid) rows.links
AreNumbersBelow Sub rows = AreBelow rows.counters.again.subscription (has_id_below rows.counters.subscription) rows.links
AreNumbersBelow Write rows = AreBelow rows.counters.again.write (has_write_id_below rows.counters.write) rows.writes
