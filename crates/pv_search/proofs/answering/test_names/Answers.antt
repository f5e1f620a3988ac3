use Rattle.std.proofs.Common.{◌≡◌, ◌+◌, List, ℕ, Bool, [], ◌∷◌, ◌++◌, drop, Ok, refl}
use Rattle.std.specs.Fn.{FnReturnsAt}
use Rattle.std.proofs.iter.Next.{says_at}
use Rattle.std.proofs.lemmas.List.{drop_all}
use Rattle.pv_search.proofs.Testing.{named_on, testing-ends, testing-passed, testing-refused}
use Rattle.pv_search.proofs.answering.test_names.Goals as goal
use Rattle.pv_search.proofs.answering.test_names.Goals.{then-passes+in_ok-push, else-passes}

pub loop-search-preserved : goal.loop-search-preserved
loop-search-preserved g c =
    let at = c.loop-search in
    let s = c.search-item.result in
    let left = drop (at.search-index + 1) c.args.searches.now in
    let answers = λ (name : List ℕ) (passes : Bool). FnReturnsAt g.F.Fn c.args.test name (Ok passes) in
    let gave : FnReturnsAt g.F.Fn c.args.test c.in_ok-name.name c.test.result = says_at g.F.Fn c.test.ensures refl in
    let returned : answers c.in_ok-name.name c.in_ok-passes.passes = rw c.in_ok-passes.was at gave in
    let answered : answers s.name c.in_ok-passes.passes = rw c.in_ok-name.ensures at returned in
    let name : c.push-in-loop-search.new.self.items ≡ at.names.items ++ s.name ∷ [] = rw (c.in_ok-push-2.ensures.items, c.in_ok-name.ensures) refl in
    record {
      named = named_on c.args.searches.now at.search-index s at.names.items c.push-in-loop-search.new.self.items c.loop-search-test.true c.search-item.is name at.invariant.named;
      tested = elim c.if-passes.branch [
        | then-passes+in_ok-push w ↦
            rw (w.passed-is, w.in_ok-push.ensures.items) (testing-passed answers c.args.searches.now at.search-index s at.passed.items c.loop-search-test.true c.search-item.is (rw w.if-passes.true at answered) at.invariant.tested)
        | else-passes w ↦
            rw w.passed-is (testing-refused answers c.args.searches.now at.search-index s at.passed.items c.loop-search-test.true c.search-item.is (rw w.if-passes.false at answered) at.invariant.tested)
      ];
    }

pub returns-clause-passed : goal.returns-clause-passed
returns-clause-passed g c =
    testing-ends _ _ _ _ (drop_all c.loop-search.search-index c.args.searches.now c.loop-search-test.false) c.loop-search.invariant.tested
