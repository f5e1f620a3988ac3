-- How many clients a host may have.
use Rattle.std.specs.Prelude.{ℕ, ◌&&◌, nat_le, if◌then◌else◌, List, Option, Some, None, option_and_then}
use Rattle.decimal_text.specs.Numbers.{number_of}
use Rattle.serve_state.specs.declared.hosts.HostSeats.{HostSeats}

-- a number of clients from 1 to 1,024, who are all that can be
abbrev pub some_seats : ℕ → Option HostSeats
some_seats n = if nat_le 1 n && nat_le n 1024 then Some (record { number = n }) else None

-- the number of clients that decimal digits write
abbrev pub seats_of : List ℕ → Option HostSeats
seats_of digits = option_and_then some_seats (number_of 32 digits)
