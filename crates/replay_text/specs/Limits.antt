-- The limits that a script can change.
use Rattle.std.specs.Prelude.{ℕ, Bool, if◌then◌else◌, List, codes, bytes_eq, Option, Some, None, option_map, option_and_then}
use Rattle.decimal_text.specs.Numbers.{number_of}
use Rattle.gateway_state.specs.declared.limits.Limits.{Limits}
use Rattle.replay_text.specs.declared.limit.NewLimit.{NewLimit}
use Rattle.replay_text.specs.declared.limit.NewLimit.TheVariants.{Sessions, Servers, Links, Searches, Share, Channels, Subscriptions, Reads, Writes, Messages, UpdateBytes, MakesRoom, ReusesNumbers, PassesOverGone, TellsUnreadable, AnswersSearches, ChecksHosts}
use Rattle.replay_text.specs.Values.{flag_of}

-- a limit that holds or doesn't, by its name
abbrev pub flag_limit : List ℕ → Bool → Option NewLimit
flag_limit name holds =
    if bytes_eq name (codes "makes-room") then Some (MakesRoom holds)
    else if bytes_eq name (codes "reuses-numbers") then Some (ReusesNumbers holds)
    else if bytes_eq name (codes "passes-over-gone") then Some (PassesOverGone holds)
    else if bytes_eq name (codes "tells-unreadable") then Some (TellsUnreadable holds)
    else if bytes_eq name (codes "answers-searches") then Some (AnswersSearches holds)
    else if bytes_eq name (codes "checks-hosts") then Some (ChecksHosts holds)
    else None

-- a limit of each session by its name, with what a word writes of it: a number; or one that holds or doesn't
abbrev pub session_limit : List ℕ → List ℕ → Option NewLimit
session_limit name value =
    if bytes_eq name (codes "channels") then option_map Channels (number_of 64 value)
    else if bytes_eq name (codes "subscriptions") then option_map Subscriptions (number_of 64 value)
    else if bytes_eq name (codes "reads") then option_map Reads (number_of 64 value)
    else if bytes_eq name (codes "writes") then option_map Writes (number_of 64 value)
    else if bytes_eq name (codes "messages") then option_map Messages (number_of 32 value)
    else if bytes_eq name (codes "update-bytes") then option_map UpdateBytes (number_of 64 value)
    else option_and_then (flag_limit name) (flag_of value)

-- any limit
abbrev pub limit_named : List ℕ → List ℕ → Option NewLimit
limit_named name value =
    if bytes_eq name (codes "sessions") then option_map Sessions (number_of 64 value)
    else if bytes_eq name (codes "servers") then option_map Servers (number_of 64 value)
    else if bytes_eq name (codes "links") then option_map Links (number_of 64 value)
    else if bytes_eq name (codes "searches") then option_map Searches (number_of 64 value)
    else if bytes_eq name (codes "share") then option_map Share (number_of 64 value)
    else session_limit name value

-- the limits that held, with this one changed
abbrev pub with_limit : NewLimit → Limits → Limits
with_limit (Sessions n) limits = record limits { sessions = n }
with_limit (Servers n) limits = record limits { servers = n }
with_limit (Links n) limits = record limits { links = n }
with_limit (Searches n) limits = record limits { searches = n }
with_limit (Share n) limits = record limits { share = n }
with_limit (Channels n) limits = record limits { channels = n }
with_limit (Subscriptions n) limits = record limits { subs = n }
with_limit (Reads n) limits = record limits { reads = n }
with_limit (Writes n) limits = record limits { writes = n }
with_limit (Messages n) limits = record limits { messages = n }
with_limit (UpdateBytes n) limits = record limits { update_bytes = n }
with_limit (MakesRoom holds) limits = record limits { makes_room = holds }
with_limit (ReusesNumbers holds) limits = record limits { reuses_numbers = holds }
with_limit (PassesOverGone holds) limits = record limits { passes_over_gone = holds }
with_limit (TellsUnreadable holds) limits = record limits { tells_unreadable = holds }
with_limit (AnswersSearches holds) limits = record limits { answers_searches = holds }
with_limit (ChecksHosts holds) limits = record limits { checks_hosts = holds }
