use Rattle.std.specs.HashMap.{get}
use Rattle.server_book.specs.Seats.{same_address}
use Rattle.server_book.proofs.Kept.{agree-counted}
use Rattle.server_book.proofs.book.ServerBook.look.Goals as goal

pub invariant_of-self : goal.invariant_of-self
invariant_of-self c = agree-counted c.self.inside.seats.items c.count.new.seats.items (get same_address c.self.inside.numbers) c.self.inside.waiting c.self.invariant c.args.number c.args.links c.self.inside.limit c.count.ensures.new
