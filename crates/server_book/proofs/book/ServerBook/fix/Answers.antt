use Rattle.std.proofs.Common.{◌≡◌, None, length, sym, ap, subst, ◌∙◌, arith}
use Rattle.std.specs.HashMap.{get}
use Rattle.server_book.specs.declared.server.KnownServer.{KnownServer}
use Rattle.server_book.specs.Books.{Book}
use Rattle.server_book.specs.Seats.{least_free, number_of, same_address}
use Rattle.server_book.proofs.Kept.{agree-fixed, agree-met}
use Rattle.server_book.proofs.book.ServerBook.fix.Goals as goal

pub invariant_of-self : goal.invariant_of-self
invariant_of-self c = agree-fixed c.self.inside.seats.items c.fix.new.seats.items (get same_address c.self.inside.numbers) c.self.inside.waiting c.self.invariant c.in-Some.number c.fix.ensures

pub invariant_of-self-2 : goal.invariant_of-self-2
invariant_of-self-2 c =
    let none : number_of c.args.address c.self.inside.seats.items ≡ None = subst (λ (book : Book). number_of c.args.address book.seats ≡ None) (sym c.self.view_is) (sym c.in_default.ensures) in
    let names : length c.new-server.result.waiting ≡ 0 = ap (λ (s : KnownServer). length s.waiting) c.new-server.ensures in
    let most = c.self.invariant.within in
    agree-met c.self.inside.seats.items c.put.new.seats.items (get same_address c.self.inside.numbers) c.self.inside.waiting c.self.invariant c.in-Some-least_free.number c.args.address c.new-server.result (get same_address c.insert.new.self) c.self.inside.waiting
    (c.in-Some-least_free.ensures ∙ ap least_free c.deref.ensures.value) none (ap (λ (s : KnownServer). s.address) c.new-server.ensures) (λ q. c.in_default-insert.ensures.updates.0 q) (omega arith) (omega arith) c.put.ensures
