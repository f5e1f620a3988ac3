-- Seats. That of the number n is the nth, and has a server or is free.
use Rattle.std.specs.Prelude.{ℕ, zero, suc, ◌==◌, ◌&&◌, Bool, true, false, if◌then◌else◌, List, [], length, slice_index_or, slice_set, Option, Some, None}
use Rattle.std.specs.List.{position, sum_by}
use Rattle.std.specs.Option.{option_map}
use Rattle.server_book.specs.Servers.{handed_out, may_leave, newly_waiting}
use Rattle.server_book.specs.declared.address.Address.{Address}
use Rattle.server_book.specs.declared.server.KnownServer.{KnownServer}

abbrev pub Seat : Type 0
Seat = Option KnownServer

-- the seat of this number. None has number 0
abbrev pub seat : ℕ → List Seat → Seat
seat zero seats = None
seat (suc place) seats = slice_index_or seats place None

-- the seats, but that this one has this server or is free
abbrev pub put : ℕ → Seat → List Seat → List Seat
put zero new seats = seats
put (suc place) new seats = slice_set seats place new

-- the seats with the server of this number changed
abbrev pub changed : ℕ → (KnownServer → KnownServer) → List Seat → List Seat
changed number change seats = put number (option_map change (seat number seats)) seats

-- ---- addresses

abbrev pub same_address : Address → Address → Bool
same_address a b = (a.host == b.host) && (a.port == b.port)

-- the seat has the server at this address
abbrev pub is_at : Address → Seat → Bool
is_at address None = false
is_at address (Some server) = same_address server.address address

abbrev pub is_free : Seat → Bool
is_free None = true
is_free (Some server) = false

-- the number of the server at this address
abbrev pub number_of : Address → List Seat → Option ℕ
number_of address seats = option_map suc (position (is_at address) seats)

-- the least number of a free seat
abbrev pub least_free : List Seat → Option ℕ
least_free seats = option_map suc (position is_free seats)

-- ---- names

-- the names that wait for the connection of the seat's server
abbrev pub waiting_in : Seat → List (List ℕ)
waiting_in None = []
waiting_in (Some server) = server.waiting

abbrev pub count_in : Seat → ℕ
count_in one = length (waiting_in one)

-- how many names wait in all
abbrev pub all_waiting : List Seat → ℕ
all_waiting seats = sum_by count_in seats

-- those that are handed out when it stands
abbrev pub handed_out_in : Seat → List (List ℕ)
handed_out_in None = []
handed_out_in (Some server) = handed_out server

-- how many these are
abbrev pub count_handed_out : Seat → ℕ
count_handed_out one = length (handed_out_in one)

-- how many names wait more, where this one waits for the seat's server
abbrev pub new_in : List ℕ → Seat → ℕ
new_in name None = 0
new_in name (Some server) = newly_waiting name server

-- ---- seats that are left

-- the server of a seat that it may leave
abbrev pub leaving : Seat → Seat
leaving None = None
leaving (Some server) = if may_leave server then Some server else None

-- what the seat has then
abbrev pub staying : Seat → Seat
staying None = None
staying (Some server) = if may_leave server then None else Some server
