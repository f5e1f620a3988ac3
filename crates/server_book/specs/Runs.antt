-- Runs of calls of a book.
use Rattle.std.specs.Prelude.{◌≡◌, ℕ, not, ◌==◌, Bool, false, List, [], ◌∷◌, ◌++◌, Option}
use Rattle.std.specs.Option.{option_map}
use Rattle.server_book.specs.Books.{Book, after_fixed, after_free, after_heard, passes, with_server}
use Rattle.server_book.specs.Seats.{handed_out_in, seat}
use Rattle.server_book.specs.Servers.{connected, counted, failed, is_connecting, lost, may_leave, retried}
use Rattle.server_book.specs.declared.address.Address.{Address}
use Rattle.server_book.specs.declared.server.KnownServer.{KnownServer}

-- a call that changes a book, with what it is given
pub data Call : Type 0 where
  Fix : Address → Call
  Hear : Address → List ℕ → ℕ → Call
  Connected : ℕ → Call
  Failed : ℕ → ℕ → Call
  Lost : ℕ → ℕ → Call
  Retry : ℕ → ℕ → Call
  Look : ℕ → ℕ → Call
  Free : ℕ → Call

-- the book after a call that was not refused memory
abbrev pub after : Call → Book → Book
after (Fix address) book = after_fixed address book
after (Hear address name look) book = after_heard address name look book
after (Connected number) book = with_server number connected book
after (Failed number look) book = with_server number (failed look) book
after (Lost number look) book = with_server number (lost look) book
after (Retry number look) book = with_server number (retried look) book
after (Look number links) book = with_server number (counted links book.limit) book
after (Free number) book = after_free number book

-- the book after calls, one after the other
abbrev pub run : List Call → Book → Book
run [] book = book
run (call ∷ calls) book = run calls (after call book)

-- by this call the server of the number is connecting no longer
abbrev pub ends : ℕ → Call → Bool
ends number (Fix address) = false
ends number (Hear address name look) = false
ends number (Connected other) = other == number
ends number (Failed other look) = other == number
ends number (Lost other look) = false
ends number (Retry other look) = false
ends number (Look other links) = false
ends number (Free other) = false

abbrev pub NoneEnds : ℕ → List Call → Type 0
NoneEnds number [] = Unit {0}
NoneEnds number (call ∷ calls) = (ends number call ≡ false) × NoneEnds number calls

-- the server of this number is connecting
abbrev pub is_connecting_at : ℕ → Book → Bool
is_connecting_at number book = passes (λ server. is_connecting server.standing) (seat number book.seats)

-- the names that are handed out once it stands
abbrev pub names_for : ℕ → Book → List (List ℕ)
names_for number book = handed_out_in (seat number book.seats)

-- the second list is the first one with more behind it
abbrev pub IsLonger : List (List ℕ) → List (List ℕ) → Type 0
IsLonger first second = (more : List (List ℕ)) × (second ≡ first ++ more)

-- a server that stands, is connecting or is known for good
abbrev pub is_held : ℕ → Book → Bool
is_held number book = passes (λ server. not (may_leave server)) (seat number book.seats)

abbrev pub is_fixed_at : ℕ → Book → Bool
is_fixed_at number book = passes (λ server. server.is_fixed) (seat number book.seats)

-- the address of the server of this number
abbrev pub address_at : ℕ → Book → Option Address
address_at number book = option_map (λ (server : KnownServer). server.address) (seat number book.seats)
