use Rattle.std.proofs.Common.{◌≡◌, ◌++◌, drop, Ok}
use Rattle.std.specs.Fn.{FnReturnsAt}
use Rattle.pv_search.specs.Answer.{names}
use Rattle.pv_search.proofs.Testing.{IsTesting}
use Rattle.pv_search.proofs.answering.test_names.Given as goal

-- the names and the CIDs so far, and those of the searches that are left, are those of all
abbrev pub invariant-loop-search : goal.invariant-loop-search
invariant-loop-search g l = record {
  named : l.names.items ++ names (drop l.search-index l.searches) ≡ names l.searches;
  tested : IsTesting (λ name passes. FnReturnsAt g.F.Fn l.test name (Ok passes)) l.searches (drop l.search-index l.searches) l.passed.items;
}
