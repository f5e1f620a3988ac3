use Rattle.std.proofs.Common.{◌≡◌, true, List, sym, ap, ◌∙◌}
use Rattle.std.specs.HashMap.{get}
use Rattle.server_book.specs.Books.{answer_in, has_waiting}
use Rattle.server_book.specs.Seats.{Seat, same_address, seat}
use Rattle.server_book.proofs.Kept.{agree-named}
use Rattle.server_book.proofs.book.ServerBook.hear.Goals as goal

pub invariant_of-self-2 : goal.invariant_of-self-2
invariant_of-self-2 c =
    let waits : has_waiting (answer_in c.args.number c.args.name.now c.args.look c.self.inside.seats.items (seat c.args.number c.self.inside.seats.items)) ≡ true =
    ap (λ (seats : List Seat). has_waiting (answer_in c.args.number c.args.name.now c.args.look seats (seat c.args.number seats))) (sym c.deref.ensures.value) ∙ ap has_waiting (sym c.answer_in-answer.ensures) ∙ sym c.has_waiting.ensures ∙ c.if-not-has_waiting.false in
    agree-named c.self.inside.seats.items c.wait.new.seats.items (get same_address c.self.inside.numbers) c.self.inside.waiting c.self.invariant c.args.number c.args.name.now c.args.look c.in_ok-more.more waits c.in_ok-more.ensures.more c.in_ok-more.ensures.ok
