use Rattle.std.proofs.Common.{◌≡◌, None, replicate}
use Rattle.server_book.proofs.seats.free_seats.Given as goal

-- so many seats are there
abbrev pub invariant-loop : goal.invariant-loop
invariant-loop l = l.seats.items ≡ replicate l.counter None
