-- Rows of sessions.
use Rattle.std.specs.Prelude.{ℕ, List, Bool, Option, not, nat_lt, ◌==◌}
use Rattle.std.specs.List.{count_by, find}
use Rattle.channel_table.specs.declared.sessions.Session.{Session}

-- the session of this number
abbrev pub is_numbered : ℕ → Session → Bool
is_numbered number session = session.number == number

-- another
abbrev pub is_not_numbered : ℕ → Session → Bool
is_not_numbered number session = not (is_numbered number session)

-- a session of a lower number
abbrev pub is_below : ℕ → Session → Bool
is_below number session = nat_lt session.number number

-- exactly n of the sessions have a lower number than this one
abbrev pub has_below : ℕ → List Session → Session → Bool
has_below n sessions session = count_by (is_below session.number) sessions == n

-- the nth session by rising number, counted from 0
abbrev pub nth_by_number : ℕ → List Session → Option Session
nth_by_number n sessions = find (has_below n sessions) sessions

-- the session with its host, whether that stays, and whether it is paused
abbrev pub with_host_and_pause : List ℕ → Bool → Bool → Session → Session
with_host_and_pause host host_fixed paused session =
    record session { host = host; host_fixed = host_fixed; paused = paused }

-- the session with what its client said of its user
abbrev pub with_user : List ℕ → Session → Session
with_user user session = record session { user = user }
