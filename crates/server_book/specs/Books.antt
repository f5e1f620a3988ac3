-- What a book of servers knows, and what its calls do.
use Rattle.std.specs.Prelude.{◌≡◌, ℕ, ◌^◌, ◌<◌, ◌≤◌, ◌&&◌, ◌||◌, not, nat_lt, Bool, true, false, if◌then◌else◌, List, length, Option, Some, None}
use Rattle.server_book.specs.Names.{is_among}
use Rattle.server_book.specs.Servers.{can_retry, fixed, is_connecting, newcomer, stands, with_name}
use Rattle.server_book.specs.Seats.{Seat, all_waiting, changed, is_at, least_free, number_of, put, seat, staying}
use Rattle.server_book.specs.declared.address.Address.{Address}
use Rattle.server_book.specs.declared.book.TheConstants.{MOST_WAITING, MOST_WAITING_FOR_SERVER}
use Rattle.server_book.specs.declared.heard.Heard.{Heard}
use Rattle.server_book.specs.declared.heard.Heard.TheVariants as Told
use Rattle.server_book.specs.declared.server.KnownServer.{KnownServer}

-- after how many looks in a row without a link a server is closed, and the seats
pub record Book : Type 0 where
  pub limit : ℕ
  pub seats : List Seat

-- ---- a server is heard of

-- the name waits for the server already, or may
abbrev pub may_wait : List ℕ → List Seat → KnownServer → Bool
may_wait name seats server =
    is_among server.waiting name || (nat_lt (length server.waiting) MOST_WAITING_FOR_SERVER && nat_lt (all_waiting seats) MOST_WAITING)

-- what is to be done about a name of a server that is known
abbrev pub answer_of : ℕ → List ℕ → ℕ → List Seat → KnownServer → Heard
answer_of number name look seats server =
    if stands server.standing then Told.Find number
    else if not (is_connecting server.standing || can_retry look server) then Told.HeldOff
    else if not (may_wait name seats server) then Told.Dropped
    else if is_connecting server.standing then Told.Waits number
    else Told.Connect number

-- the same by its seat, which is not free
abbrev pub answer_in : ℕ → List ℕ → ℕ → List Seat → Seat → Heard
answer_in number name look seats None = Told.Full
answer_in number name look seats (Some server) = answer_of number name look seats server

-- the same for one that isn't known, where this is the least free number
abbrev pub answer_new : Option ℕ → List Seat → Heard
answer_new None seats = Told.Full
answer_new (Some number) seats = if nat_lt (all_waiting seats) MOST_WAITING then Told.Connect number else Told.Dropped

abbrev pub answer_by : Option ℕ → List ℕ → ℕ → List Seat → Heard
answer_by (Some number) name look seats = answer_in number name look seats (seat number seats)
answer_by None name look seats = answer_new (least_free seats) seats

-- what is to be done about a name that the server at this address has
abbrev pub answer_to : Address → List ℕ → ℕ → Book → Heard
answer_to address name look book = answer_by (number_of address book.seats) name look book.seats

-- the name waits then
abbrev pub has_waiting : Heard → Bool
has_waiting (Told.Find number) = false
has_waiting (Told.Connect number) = true
has_waiting (Told.Waits number) = true
has_waiting Told.HeldOff = false
has_waiting Told.Dropped = false
has_waiting Told.Full = false

-- the name waits for the server of this number, if it does by the answer
abbrev pub seats_waiting : Heard → ℕ → List ℕ → List Seat → List Seat
seats_waiting answer number name seats = if has_waiting answer then changed number (with_name name) seats else seats

-- a new server gets this number, and the name waits for it
abbrev pub seats_with : Option ℕ → Address → List ℕ → List Seat → List Seat
seats_with None address name seats = seats
seats_with (Some number) address name seats =
    if nat_lt (all_waiting seats) MOST_WAITING then put number (Some (with_name name (newcomer address false))) seats else seats

abbrev pub seats_by : Option ℕ → Address → List ℕ → ℕ → List Seat → List Seat
seats_by (Some number) address name look seats = seats_waiting (answer_in number name look seats (seat number seats)) number name seats
seats_by None address name look seats = seats_with (least_free seats) address name seats

abbrev pub after_heard : Address → List ℕ → ℕ → Book → Book
after_heard address name look book = record book { seats = seats_by (number_of address book.seats) address name look book.seats }

-- ---- a server is known for good

-- the number that it gets: its own, or the least free one
abbrev pub number_for : Option ℕ → List Seat → Option ℕ
number_for (Some number) seats = Some number
number_for None seats = least_free seats

abbrev pub seats_fixed : Option ℕ → Address → List Seat → List Seat
seats_fixed None address seats = seats
seats_fixed (Some number) address seats = put number (Some (newcomer address true)) seats

abbrev pub seats_fixed_by : Option ℕ → Address → List Seat → List Seat
seats_fixed_by (Some number) address seats = changed number fixed seats
seats_fixed_by None address seats = seats_fixed (least_free seats) address seats

abbrev pub after_fixed : Address → Book → Book
after_fixed address book = record book { seats = seats_fixed_by (number_of address book.seats) address book.seats }

-- ---- what happens to the server of a number

abbrev pub with_server : ℕ → (KnownServer → KnownServer) → Book → Book
with_server number change book = record book { seats = changed number change book.seats }

-- a test of it, which no free seat passes
abbrev pub passes : (KnownServer → Bool) → Seat → Bool
passes test None = false
passes test (Some server) = test server

-- its number is free, if the server may leave it
abbrev pub after_free : ℕ → Book → Book
after_free number book = record book { seats = put number (staying (seat number book.seats)) book.seats }

-- ---- agreement

-- the numbers under the addresses are those of the seats; so many names wait; and numbers have 32 bits
pub record Agree (seats : List Seat) (numbers : Address → Option ℕ) (waiting : ℕ) : Type 0 where
  pub sound : (address : Address) (number : ℕ) → numbers address ≡ Some number → is_at address (seat number seats) ≡ true
  pub complete : (address : Address) (number : ℕ) → is_at address (seat number seats) ≡ true → numbers address ≡ Some number
  pub count : waiting ≡ all_waiting seats
  pub within : waiting ≤ MOST_WAITING
  pub few : length seats < 2 ^ 32
