use Rattle.std.proofs.Common.{◌∙◌}
use Rattle.std.specs.HashMap.{get}
use Rattle.server_book.specs.Seats.{same_address}
use Rattle.server_book.proofs.Agreeing.{number-kept}
use Rattle.server_book.proofs.book.ServerBook.number_of.Goals as goal

pub returns : goal.returns
returns c = rw (← c.self.view_is) (c.copied.ensures ∙ c.get.ensures.value ∙ number-kept c.self.inside.seats.items (get same_address c.self.inside.numbers) c.self.inside.waiting c.self.invariant c.args.address)
