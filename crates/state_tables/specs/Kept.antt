-- Searches as they are kept: each under a number of its own, with the texts under which it is listed.
use Rattle.std.specs.Prelude.{◌≡◌, ℕ, List, [], ◌∷◌, ◌++◌, Bool, true, false, not, ◌&&◌, bytes_eq, is_some, length, map, nat_le, nat_lt, slice_get, filter, filter_map, option_map, if◌then◌else◌, Option, Some, None}
use Rattle.std.specs.List.{find, fold, list_any}
use Rattle.std.specs.Option.{unwrap_or}
use Rattle.rows.specs.Rows.{change_first}
use Rattle.pv_name.specs.Host.{lowercase}
use Rattle.row_index.specs.declared.key.Key.{Key}
use Rattle.row_index.specs.Lists.{AddsTo, RemovesFrom}
use Rattle.named_rows.specs.Indexes.{AreListed, IsApart, is_at, is_not_at}
use Rattle.pv_alias.specs.declared.lead.Lead.{Lead}
use Rattle.rule_desk.specs.declared.policy.Policy.{Policy}
use Rattle.gateway_state.specs.declared.search.RememberedSearch.{RememberedSearch}
use Rattle.gateway_state.specs.declared.limits.Limits.{Limits}
use Rattle.gateway_state.specs.Resolution.{real_in}
use Rattle.gateway_state.specs.Searches.{grown_stale, is_from, refreshed}
use Rattle.gateway_state.specs.Variables.{search_name}
use Rattle.state_tables.specs.declared.kept.KeptSearch.{KeptSearch}
use Rattle.state_tables.specs.declared.search_lists.SearchLists.{SearchLists}

-- THE ROWS

-- the key of a number
abbrev pub serial_key : ℕ → Key
serial_key serial = record { owner = 0; id = serial }

-- the key of a row
abbrev pub kept_key : KeptSearch → Key
kept_key kept = serial_key kept.serial

-- the row of a search that leads there
abbrev pub kept_as : ℕ → Option Lead → RememberedSearch → KeptSearch
kept_as serial lead search =
    record { serial = serial; name = search.name; owner = lowercase search.host; real = real_in lead; search = Some search }

-- what stands for a search that was taken out
abbrev pub hollow : RememberedSearch
hollow = record { host = []; name = []; fresh = false }

-- the search of a row
abbrev pub search_of : KeptSearch → RememberedSearch
search_of kept = unwrap_or kept.search hollow

abbrev pub searches_of : List KeptSearch → List RememberedSearch
searches_of rows = map search_of rows

-- the search that is taken out of a row
abbrev pub search_in : Option KeptSearch → Option RememberedSearch
search_in None = None
search_in (Some kept) = kept.search

-- the key of a row that was found
abbrev pub key_in : Option KeptSearch → Option Key
key_in kept = option_map kept_key kept

-- the row's search was made by the host
abbrev pub is_by_in : List ℕ → Option RememberedSearch → Bool
is_by_in host None = false
is_by_in host (Some search) = is_from host search

abbrev pub is_by : List ℕ → KeptSearch → Bool
is_by host kept = is_by_in host kept.search

-- the row that a key finds is by the host
abbrev pub is_by_found : List ℕ → Option KeptSearch → Bool
is_by_found host None = false
is_by_found host (Some kept) = is_by host kept

-- the row's search was made since the last age
abbrev pub is_fresh_in : Option RememberedSearch → Bool
is_fresh_in None = false
is_fresh_in (Some search) = search.fresh

abbrev pub is_fresh_row : KeptSearch → Bool
is_fresh_row kept = is_fresh_in kept.search

abbrev pub is_stale_row : KeptSearch → Bool
is_stale_row kept = not (is_fresh_row kept)

-- the row with its search made again
abbrev pub made_again : KeptSearch → KeptSearch
made_again kept = record kept { search = option_map refreshed kept.search }

-- the row with its search not made again yet
abbrev pub grown_old : KeptSearch → KeptSearch
grown_old kept = record kept { search = option_map grown_stale kept.search }

-- the row under another number, with its search made again
abbrev pub made_again_under : ℕ → KeptSearch → KeptSearch
made_again_under serial kept = record kept { serial = serial; search = option_map refreshed kept.search }

-- LISTS of their keys

-- the row is for this name
abbrev pub is_named : List ℕ → KeptSearch → Bool
is_named name kept = bytes_eq kept.name name

-- it is by a host whose text in lower case is this one
abbrev pub is_owned : List ℕ → KeptSearch → Bool
is_owned owner kept = bytes_eq kept.owner owner

abbrev pub is_text : Option (List ℕ) → List ℕ → Bool
is_text None name = false
is_text (Some text) name = bytes_eq text name

-- it leads to this real name
abbrev pub is_led : List ℕ → KeptSearch → Bool
is_led name kept = is_text kept.real name

-- it is for this name, by this host
abbrev pub is_sought : List ℕ → List ℕ → KeptSearch → Bool
is_sought host name kept = is_named name kept && is_by host kept

-- under each text stand the keys of the rows whose text it is, in order
abbrev pub AreUnder : (List ℕ → KeptSearch → Bool) → List KeptSearch → List (List ℕ × List Key) → Type 0
AreUnder test rows lists = AreListed kept_key test rows lists

-- one more is listed by its text now, wherever the rows were listed and none had its key
abbrev pub AddsUnder : (List ℕ → KeptSearch → Bool) → KeptSearch → List (List ℕ × List Key) → List (List ℕ × List Key) → Type 0
AddsUnder test kept old new =
    (rows : List KeptSearch) → list_any (is_at kept_key (kept_key kept)) rows ≡ false → AreUnder test rows old → AreUnder test (rows ++ kept ∷ []) new

-- the rows are listed as they were
abbrev pub KeepsUnder : (List ℕ → KeptSearch → Bool) → KeptSearch → List (List ℕ × List Key) → List (List ℕ × List Key) → Type 0
KeepsUnder test kept old new =
    (rows : List KeptSearch) → list_any (is_at kept_key (kept_key kept)) rows ≡ false → AreUnder test rows old → AreUnder test rows new

-- in each of the three
pub record AreInLists (rows : List KeptSearch) (lists : SearchLists) : Type 0 where
  pub names : AreUnder is_named rows lists.names
  pub hosts : AreUnder is_owned rows lists.hosts
  pub reals : AreUnder is_led rows lists.reals

-- no row has this key
abbrev pub IsNew : Key → List KeptSearch → Type 0
IsNew key rows = list_any (is_at kept_key key) rows ≡ false

-- the rows with one more are listed now, wherever they were listed and none had its key
abbrev pub Lists : KeptSearch → SearchLists → SearchLists → Type 0
Lists kept old new = (rows : List KeptSearch) → IsNew (kept_key kept) rows → AreInLists rows old → AreInLists (rows ++ kept ∷ []) new

-- the rows are listed as they were
abbrev pub KeepsLists : KeptSearch → SearchLists → SearchLists → Type 0
KeepsLists kept old new = (rows : List KeptSearch) → IsNew (kept_key kept) rows → AreInLists rows old → AreInLists rows new

-- the rows but for this one are listed now, where it was listed and keys are apart
abbrev pub Unlists : KeptSearch → SearchLists → SearchLists → Type 0
Unlists kept old new =
    (rows : List KeptSearch) → IsApart kept_key rows → find (is_at kept_key (kept_key kept)) rows ≡ Some kept
    → AreInLists rows old → AreInLists (filter (is_not_at kept_key (kept_key kept)) rows) new

-- the same of a row that a key finds
abbrev pub ListsFound : Option KeptSearch → SearchLists → SearchLists → Type 0
ListsFound None old new = Unit {0}
ListsFound (Some kept) old new = Lists kept old new

abbrev pub KeepsListsOf : Option KeptSearch → SearchLists → SearchLists → Type 0
KeepsListsOf None old new = Unit {0}
KeepsListsOf (Some kept) old new = KeepsLists kept old new

abbrev pub UnlistsFound : Option KeptSearch → SearchLists → SearchLists → Type 0
UnlistsFound None old new = new ≡ old
UnlistsFound (Some kept) old new = Unlists kept old new

-- a text, if there is one, has the key as its last
abbrev pub AddsToText : Option (List ℕ) → Key → List (List ℕ × List Key) → List (List ℕ × List Key) → Type 0
AddsToText None key old new = new ≡ old
AddsToText (Some text) key old new = AddsTo text key old new

-- or lacks it
abbrev pub RemovesFromText : Option (List ℕ) → Key → List (List ℕ × List Key) → List (List ℕ × List Key) → Type 0
RemovesFromText None key old new = new ≡ old
RemovesFromText (Some text) key old new = RemovesFrom text key old new

-- WHAT THE TEXTS ARE

-- the row's search is there, and its texts are those that it has under the policy
pub record IsRight (policy : Policy) (kept : KeptSearch) : Type 0 where
  pub whole : is_some kept.search ≡ true
  pub name : kept.name ≡ (search_of kept).name
  pub owner : kept.owner ≡ lowercase (search_of kept).host
  pub real : kept.real ≡ search_name policy (search_of kept)

-- so it is of all rows
abbrev pub AreRight : Policy → List KeptSearch → Type 0
AreRight policy [] = Unit {0}
AreRight policy (kept ∷ later) = IsRight policy kept × AreRight policy later

-- the real names that rows lead to
abbrev pub reals_of : List KeptSearch → List (List ℕ)
reals_of rows = filter_map (λ (kept : KeptSearch). kept.real) rows

-- the rows are right under the policy, and these are their searches
pub record Stand (policy : Policy) (rows : List KeptSearch) (searches : List RememberedSearch) : Type 0 where
  pub right : AreRight policy rows
  pub are : searches_of rows ≡ searches

-- WHAT GOES

-- the row that was found, under another number and made again
abbrev pub again_found : ℕ → Option KeptSearch → List KeptSearch
again_found serial None = []
again_found serial (Some kept) = made_again_under serial kept ∷ []

-- the rows once the search of a key is made again: it is the last where old ones go
abbrev pub rows_again : Limits → ℕ → Key → List KeptSearch → List KeptSearch
rows_again limits serial key rows =
    if limits.makes_room
    then filter (is_not_at kept_key key) rows ++ again_found serial (find (is_at kept_key key) rows)
    else change_first (is_at kept_key key) made_again rows

-- a host has some rows, and as many as one may
abbrev pub has_share : Limits → List ℕ → List KeptSearch → Bool
has_share limits owner rows =
    nat_lt 0 (length (filter (is_owned owner) rows)) && nat_le limits.share (length (filter (is_owned owner) rows))

-- the row that goes where one more of the host is remembered
abbrev pub outworn_row : Limits → List ℕ → List KeptSearch → Option KeptSearch
outworn_row limits owner rows =
    if has_share limits owner rows then find (is_owned owner) rows
    else if nat_le limits.searches (length rows) then slice_get rows 0
    else None

-- the rows without one that was found
abbrev pub rows_after : Option KeptSearch → List KeptSearch → List KeptSearch
rows_after None rows = rows
rows_after (Some kept) rows = filter (is_not_at kept_key (kept_key kept)) rows

-- where the rows were those of searches under a policy, they are so with the search of one more row
abbrev pub LedByOneMore : Policy → KeptSearch → List KeptSearch → List KeptSearch → Type 0
LedByOneMore policy kept old new =
    AreRight policy old → AreRight policy new × (searches_of new ≡ searches_of old ++ search_of kept ∷ [])

-- AGE

-- the row of a key goes if it is stale, and grows stale if it is not
abbrev pub aged_found : Key → List KeptSearch → Option KeptSearch → List KeptSearch
aged_found key rows None = rows
aged_found key rows (Some kept) =
    if is_fresh_row kept then change_first (is_at kept_key key) grown_old rows
    else filter (is_not_at kept_key key) rows

abbrev pub aged_at : List KeptSearch → Key → List KeptSearch
aged_at rows key = aged_found key rows (find (is_at kept_key key) rows)

-- so with the rows of all these keys
abbrev pub all_aged : List Key → List KeptSearch → List KeptSearch
all_aged keys rows = fold aged_at rows keys
