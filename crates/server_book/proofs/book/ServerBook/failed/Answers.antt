use Rattle.std.specs.HashMap.{get}
use Rattle.server_book.specs.Seats.{same_address}
use Rattle.server_book.proofs.Kept.{agree-failed}
use Rattle.server_book.proofs.book.ServerBook.failed.Goals as goal

pub invariant_of-self : goal.invariant_of-self
invariant_of-self c = agree-failed c.self.inside.seats.items c.fail-forgotten.new.seats.items (get same_address c.self.inside.numbers) c.self.inside.waiting c.self.invariant c.args.number c.args.look c.fail-forgotten.result c.fail-forgotten.ensures.count c.fail-forgotten.ensures.new
