use Rattle.std.specs.HashMap.{get}
use Rattle.server_book.specs.Seats.{same_address}
use Rattle.server_book.proofs.Kept.{agree-retried}
use Rattle.server_book.proofs.book.ServerBook.retry.Goals as goal

pub invariant_of-self : goal.invariant_of-self
invariant_of-self c = agree-retried c.self.inside.seats.items c.retry.new.seats.items (get same_address c.self.inside.numbers) c.self.inside.waiting c.self.invariant c.args.number c.args.look c.retry.ensures.new
