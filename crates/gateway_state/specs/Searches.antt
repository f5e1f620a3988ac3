-- The rows of remembered searches.
use Rattle.std.specs.Prelude.{ℕ, List, [], ◌∷◌, ◌++◌, length, filter, map, Bool, true, false, not, ◌||◌, ◌&&◌, nat_lt, nat_le, bytes_eq, slice_get, if◌then◌else◌, Option, Some, None}
use Rattle.std.specs.List.{cons_option, find, list_any}
use Rattle.rows.specs.Rows.{change_first, remove_first}
use Rattle.pv_name.specs.Host.{same_host}
use Rattle.rule_desk.specs.declared.policy.Policy.{Policy}
use Rattle.gateway_state.specs.declared.limits.Limits.{Limits}
use Rattle.gateway_state.specs.declared.search.RememberedSearch.{RememberedSearch}
use Rattle.gateway_state.specs.Resolution.{is_real, lead_of}

-- a search for this name by this host; hosts are alike but for case
abbrev pub same_search : List ℕ → List ℕ → RememberedSearch → Bool
same_search host name row = bytes_eq row.name name && same_host row.host host

-- the search leads to this real name now
abbrev pub leads_to : Policy → List ℕ → RememberedSearch → Bool
leads_to policy name row = is_real (lead_of policy row.host row.name) name

-- the host made the search
abbrev pub is_from : List ℕ → RememberedSearch → Bool
is_from host row = same_host row.host host

-- a search that is made now
abbrev pub made_now : List ℕ → List ℕ → RememberedSearch
made_now host name = record { host = host; name = name; fresh = true }

abbrev pub refreshed : RememberedSearch → RememberedSearch
refreshed row = record row { fresh = true }

-- it wasn't made since the last age
abbrev pub is_stale : RememberedSearch → Bool
is_stale row = not row.fresh

abbrev pub is_fresh : RememberedSearch → Bool
is_fresh row = row.fresh

-- as from now on each search is, until it is made again
abbrev pub grown_stale : RememberedSearch → RememberedSearch
grown_stale row = record row { fresh = false }

-- without a search
abbrev pub without_search : Option RememberedSearch → List RememberedSearch → List RememberedSearch
without_search None rows = rows
without_search (Some row) rows = remove_first (same_search row.host row.name) rows

-- how many searches of the host are remembered
abbrev pub search_count : List ℕ → List RememberedSearch → ℕ
search_count host rows = length (filter (is_from host) rows)

-- the host has some, and as many as one host may
abbrev pub has_its_share : Limits → List ℕ → List RememberedSearch → Bool
has_its_share limits host rows = nat_lt 0 (search_count host rows) && nat_le limits.share (search_count host rows)

-- the search that goes where one more of the host is remembered: its own oldest where it has its share, else
-- the oldest of all where there are as many as may be
abbrev pub outworn : Limits → List ℕ → List RememberedSearch → Option RememberedSearch
outworn limits host rows =
    if has_its_share limits host rows then find (is_from host) rows
    else if nat_le limits.searches (length rows) then slice_get rows 0
    else None

-- a search that is remembered is made again: where old ones go, it is the latest from now on
abbrev pub searched_again : Limits → List ℕ → List ℕ → List RememberedSearch → List RememberedSearch
searched_again limits host name rows =
    if limits.makes_room
    then remove_first (same_search host name) rows ++ map refreshed (cons_option (find (same_search host name) rows) [])
    else change_first (same_search host name) refreshed rows

-- one is made that isn't remembered: an old one goes for it, or it is remembered where there is room
abbrev pub searched_first : Limits → List ℕ → List ℕ → List RememberedSearch → List RememberedSearch
searched_first limits host name rows =
    if limits.makes_room then without_search (outworn limits host rows) rows ++ made_now host name ∷ []
    else if nat_le limits.searches (length rows) then rows
    else rows ++ made_now host name ∷ []

-- the remembered searches once a host searched for a name
abbrev pub with_search : Limits → List ℕ → List ℕ → List RememberedSearch → List RememberedSearch
with_search limits host name rows =
    if list_any (same_search host name) rows
    then searched_again limits host name rows
    else searched_first limits host name rows

-- the search that goes at that
abbrev pub left_by_search : Limits → List ℕ → List ℕ → List RememberedSearch → Option RememberedSearch
left_by_search limits host name rows =
    if list_any (same_search host name) rows || not limits.makes_room then None else outworn limits host rows

-- the search that goes once its host opens a channel on its name
abbrev pub left_by_channel : Limits → List ℕ → List ℕ → List RememberedSearch → Option RememberedSearch
left_by_channel limits host name rows = if limits.makes_room then find (same_search host name) rows else None
