-- What happens to a server. Time is counted in looks.
use Rattle.std.specs.Prelude.{ℕ, ◌+◌, ◌*◌, ◌^◌, ◌==◌, ◌&&◌, min, nat_le, Bool, true, false, not, if◌then◌else◌, List, [], length}
use Rattle.server_book.specs.Names.{is_among, with_once}
use Rattle.server_book.specs.declared.address.Address.{Address}
use Rattle.server_book.specs.declared.server.KnownServer.{KnownServer}
use Rattle.server_book.specs.declared.server.Standing.{Standing}
use Rattle.server_book.specs.declared.server.Standing.TheVariants.{Connecting, Stands, HeldOff}
use Rattle.server_book.specs.declared.server.TheConstants.{LAST_LOOK, LOOKS_OF_SECOND, MOST_DOUBLINGS}

-- a server that is connecting, and for which no name waits
abbrev pub newcomer : Address → Bool → KnownServer
newcomer address is_fixed = record { address = address; is_fixed = is_fixed; standing = Connecting; failures = 0; waiting = []; idle = 0 }

abbrev pub fixed : KnownServer → KnownServer
fixed server = record server { is_fixed = true }

-- its connection is being made, and the name waits for it
abbrev pub with_name : List ℕ → KnownServer → KnownServer
with_name name server = record server { standing = Connecting; waiting = with_once name server.waiting }

-- how many names wait more than before
abbrev pub newly_waiting : List ℕ → KnownServer → ℕ
newly_waiting name server = if is_among server.waiting name then 0 else 1

abbrev pub is_connecting : Standing → Bool
is_connecting Connecting = true
is_connecting Stands = false
is_connecting (HeldOff until) = false

abbrev pub stands : Standing → Bool
stands Connecting = false
stands Stands = true
stands (HeldOff until) = false

abbrev pub is_held_off : Standing → Bool
is_held_off Connecting = false
is_held_off Stands = false
is_held_off (HeldOff until) = true

-- no connection was to be made before this look or a later one
abbrev pub is_held_until : ℕ → Standing → Bool
is_held_until look Connecting = false
is_held_until look Stands = false
is_held_until look (HeldOff until) = nat_le until look

-- ---- its connection stands

-- the names that waited for its connection
abbrev pub handed_out : KnownServer → List (List ℕ)
handed_out server = if is_connecting server.standing then server.waiting else []

abbrev pub connected : KnownServer → KnownServer
connected server = if is_connecting server.standing then record server { standing = Stands; failures = 0; waiting = []; idle = 0 } else server

-- ---- its connection couldn't be made, or ended

-- a second after the first failure, and after each further one in a row twice as long
abbrev pub held_until : ℕ → ℕ → ℕ
held_until look failures = min (look + 2 ^ min failures MOST_DOUBLINGS * LOOKS_OF_SECOND) LAST_LOOK

abbrev pub held_off : ℕ → KnownServer → KnownServer
held_off look server = record server { standing = HeldOff (held_until look server.failures); failures = min (server.failures + 1) MOST_DOUBLINGS }

-- how many names are forgotten
abbrev pub forgotten : KnownServer → ℕ
forgotten server = length (handed_out server)

abbrev pub failed : ℕ → KnownServer → KnownServer
failed look server = if is_connecting server.standing then record (held_off look server) { waiting = [] } else server

abbrev pub lost : ℕ → KnownServer → KnownServer
lost look server = if stands server.standing then held_off look server else server

-- it is held off no longer
abbrev pub can_retry : ℕ → KnownServer → Bool
can_retry look server = is_held_until look server.standing

abbrev pub retried : ℕ → KnownServer → KnownServer
retried look server = if can_retry look server then record server { standing = Connecting } else server

-- ---- it has no link

-- at how many looks in a row there was none, after one more; more than the limit aren't counted
abbrev pub idle_after : ℕ → ℕ → ℕ → ℕ
idle_after idle links limit = if links == 0 then min (idle + 1) limit else 0

abbrev pub counted : ℕ → ℕ → KnownServer → KnownServer
counted links limit server = if stands server.standing then record server { idle = idle_after server.idle links limit } else server

-- a server that was found by search and had no link for so many looks in a row
abbrev pub is_idle : ℕ → ℕ → KnownServer → Bool
is_idle links limit server = stands server.standing && not server.is_fixed && (links == 0) && nat_le limit (idle_after server.idle links limit)

-- it was found by search, and has no connection
abbrev pub may_leave : KnownServer → Bool
may_leave server = is_held_off server.standing && not server.is_fixed
