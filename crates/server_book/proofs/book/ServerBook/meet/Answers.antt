use Rattle.std.proofs.Common.{◌≡◌, ◌+◌, None, false, length, sym, ap, subst, ◌∙◌, arith}
use Rattle.std.specs.HashMap.{get}
use Rattle.server_book.specs.declared.server.KnownServer.{KnownServer}
use Rattle.server_book.specs.Books.{Book}
use Rattle.server_book.specs.Seats.{least_free, number_of, same_address}
use Rattle.server_book.specs.Servers.{newcomer, with_name}
use Rattle.server_book.proofs.Kept.{agree-met}
use Rattle.server_book.proofs.book.ServerBook.meet.Goals as goal

pub invariant_of-self-2 : goal.invariant_of-self-2
invariant_of-self-2 c =
    let none : number_of c.args.address c.self.inside.seats.items ≡ None = subst (λ (book : Book). number_of c.args.address book.seats ≡ None) (sym c.self.view_is) c.requires in
    let is : c.wait.new.self ≡ with_name c.args.name.now (newcomer c.args.address false) = c.in_ok-wait.ensures.ok ∙ ap (with_name c.args.name.now) c.new-server.ensures in
    let names : length c.wait.new.self.waiting ≡ 1 = ap (λ (s : KnownServer). length s.waiting) is in
    let address : c.wait.new.self.address ≡ c.args.address = ap (λ (s : KnownServer). s.address) is in
    agree-met c.self.inside.seats.items c.put.new.seats.items (get same_address c.self.inside.numbers) c.self.inside.waiting c.self.invariant c.in-Some.number c.args.address c.wait.new.self (get same_address c.insert.new.self) (c.self.inside.waiting + 1)
    (c.in-Some.ensures ∙ ap least_free c.deref.ensures.value) none address (λ q. c.in_default-insert.ensures.updates.0 q) (omega arith) (omega arith) c.put.ensures
