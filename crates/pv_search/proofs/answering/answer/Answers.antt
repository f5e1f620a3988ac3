use Rattle.std.proofs.Common.{Bool, List, ℕ, Ok, rules}
use Rattle.std.specs.Fn.{FnReturnsAt}
use Rattle.ca_header.specs.Spelling.{IsBytes}
use Rattle.pv_search.proofs.Testing.{none-unanswered}
use Rattle.pv_search.proofs.answering.answer.Goals as goal

pub returns-clause-ok : goal.returns-clause-ok
returns-clause-ok g c = record {
  searches = c.in_ok-searches.searches.items;
  cids = c.in_ok-tested.tested.passed.items;
  picked = c.in_ok-searches.ensures;
  tested = rw c.deref.ensures.value at c.in_ok-tested.ensures.passed;
  asked = rw c.deref.ensures.value at c.in_ok-tested.ensures.names;
  reply = rw c.deref-2.ensures.value at c.in_ok-reply.ensures;
}

pub returns-clause-err : goal.returns-clause-err
returns-clause-err g c =
    let answers = λ (name : List ℕ) (passes : Bool). FnReturnsAt g.F.Fn c.args.test name (Ok passes) in
    let fits : IsBytes c.args.datagram.now = search rules in
    λ unanswered. absurd (none-unanswered answers c.args.datagram.now c.args.port _ fits unanswered (returns-clause-ok g c))
