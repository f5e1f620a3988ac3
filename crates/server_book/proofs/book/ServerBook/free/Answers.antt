use Rattle.std.specs.HashMap.{get}
use Rattle.server_book.specs.Seats.{same_address}
use Rattle.server_book.proofs.Kept.{agree-left}
use Rattle.server_book.proofs.book.ServerBook.free.Goals as goal

pub invariant_of-self-2 : goal.invariant_of-self-2
invariant_of-self-2 c =
    agree-left c.self.inside.seats.items c.leave.new.seats.items (get same_address c.self.inside.numbers) c.self.inside.waiting c.self.invariant c.args.number c.in-Some.server (get same_address c.remove.new.self) c.len.result
    c.in-Some.ensures.server (λ q. c.remove.ensures.updates.0 q) c.len.ensures c.leave.ensures.new
