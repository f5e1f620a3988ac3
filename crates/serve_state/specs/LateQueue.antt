-- Searches that wait to be kept, by hosts: one of each host is taken in turn.
use Rattle.std.specs.Prelude.{ℕ, ◌+◌, ◌-◌, ◌==◌, min, nat_lt, if◌then◌else◌, Bool, List, [], ◌∷◌, ◌++◌, length, slice_get, slice_set, Option, Some, None}
use Rattle.std.specs.List.{position}
use Rattle.serve_state.specs.Late.{LateState}

-- the searches of one host that wait, in the order in which they are taken
pub record HostState : Type 0 where
  pub host : ℕ
  pub rows : List LateState

-- the hosts of which some wait, in the order in which it is their turn, and how many searches more may wait
pub record QueueState : Type 0 where
  pub hosts : List HostState
  pub room : ℕ

-- 16,384 searches may wait in all
abbrev pub no_searches : QueueState
no_searches = record { hosts = []; room = 16384 }

-- how many wait
abbrev pub count_of : QueueState → ℕ
count_of queue = 16384 - queue.room

abbrev pub is_host : ℕ → HostState → Bool
is_host host it = it.host == host

-- a host of which one search waits
abbrev pub one_of : LateState → HostState
one_of row = record { host = row.host; rows = row ∷ [] }

-- 1,024 of a host may wait
abbrev pub has_room : HostState → Bool
has_room it = nat_lt (length it.rows) 1024

-- one more waits behind the others of its host
abbrev pub joined : LateState → HostState → HostState
joined row it = if has_room it then record it { rows = it.rows ++ row ∷ [] } else it

abbrev pub at_host : LateState → QueueState → ℕ → Option HostState → QueueState
at_host row queue place None = queue
at_host row queue place (Some it) =
    record { hosts = slice_set queue.hosts place (joined row it); room = if has_room it then queue.room - 1 else queue.room }

-- of 1,024 hosts some may wait, and one of which none did waits behind the others
abbrev pub at_place : LateState → QueueState → Option ℕ → QueueState
at_place row queue None =
    if nat_lt (length queue.hosts) 1024 then record { hosts = queue.hosts ++ one_of row ∷ []; room = queue.room - 1 }
    else queue
at_place row queue (Some place) = at_host row queue place (slice_get queue.hosts place)

-- one search more waits, where there is room
abbrev pub with_search : LateState → QueueState → QueueState
with_search row queue = if queue.room == 0 then queue else at_place row queue (position (is_host row.host) queue.hosts)

abbrev pub first_row : List LateState → Option LateState
first_row [] = None
first_row (row ∷ rows) = Some row

-- the first search of the host whose turn it is
abbrev pub next_search : List HostState → Option LateState
next_search [] = None
next_search (it ∷ hosts) = first_row it.rows

-- a host of which these searches wait: of none it is no host
abbrev pub host_of_rows : ℕ → List LateState → List HostState
host_of_rows host [] = []
host_of_rows host (row ∷ rows) = record { host = host; rows = row ∷ rows } ∷ []

-- the first of these searches of a host was taken, and it stands behind the others with what is left of it
abbrev pub after_row : ℕ → List LateState → List HostState → ℕ → QueueState
after_row host [] hosts room = record { hosts = hosts; room = room }
after_row host (row ∷ rows) hosts room = record { hosts = hosts ++ host_of_rows host rows; room = min (room + 1) 16384 }

abbrev pub after_hosts : List HostState → ℕ → QueueState
after_hosts [] room = record { hosts = []; room = room }
after_hosts (it ∷ hosts) room = after_row it.host it.rows hosts room

-- the next search was taken
abbrev pub after_take : QueueState → QueueState
after_take queue = after_hosts queue.hosts queue.room
