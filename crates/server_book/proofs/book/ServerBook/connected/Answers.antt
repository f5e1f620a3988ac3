use Rattle.std.proofs.Common.{length, ap, ◌∙◌}
use Rattle.std.specs.HashMap.{get}
use Rattle.server_book.specs.Seats.{same_address}
use Rattle.server_book.proofs.Kept.{agree-connected}
use Rattle.server_book.proofs.book.ServerBook.connected.Goals as goal

pub invariant_of-self : goal.invariant_of-self
invariant_of-self c =
    agree-connected c.self.inside.seats.items c.connect-names.new.seats.items (get same_address c.self.inside.numbers) c.self.inside.waiting c.self.invariant c.args.number (length c.as_slice.result.now)
    (ap length c.as_slice.ensures.value ∙ ap length c.connect-names.ensures.names) c.connect-names.ensures.new
