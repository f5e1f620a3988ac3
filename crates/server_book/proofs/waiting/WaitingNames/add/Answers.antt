use Rattle.std.proofs.Common.{◌≡◌, List, ℕ, is_ok, false, not, sym, ap, ◌∙◌}
use Rattle.server_book.specs.Names.{is_among}
use Rattle.server_book.proofs.NameLemmas.{apart-pushed}
use Rattle.server_book.proofs.waiting.WaitingNames.add.Goals as goal
use Rattle.server_book.proofs.waiting.WaitingNames.add.Goals.{in-Ok, in-Err}

pub invariant_of-self : goal.invariant_of-self
invariant_of-self c =
    let none : is_among c.self.inside.names.items c.args.name.now ≡ false =
    ap (λ (names : List (List ℕ)). is_among names c.args.name.now) (sym c.deref.ensures.value) ∙ sym c.if-contains.ensures.value in
    apart-pushed (is_ok c.push.result) c.self.inside.names.items c.push.new.self.items c.args.name.now c.in_ok-name.name c.self.invariant none c.in_ok-name.ensures c.push.ensures.items

pub returns-clause-new : goal.returns-clause-new
returns-clause-new c =
    let none : is_among c.self.inside.names.items c.args.name.now ≡ false =
    ap (λ (names : List (List ℕ)). is_among names c.args.name.now) (sym c.deref.ensures.value) ∙ sym c.if-contains.ensures.value in
    elim c.match-push.branch [
      | in-Ok w ↦ rw w.result-is (rw (← c.self.view_is) (ap not (sym none)))
      | in-Err w ↦ rw w.result-is tt
    ]
