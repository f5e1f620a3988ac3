use Rattle.session_worker.proofs.Dropping.{Drops}
use Rattle.session_worker.proofs.writer.drop_rest.Given as goal

-- what was taken so far is dropped
abbrev pub invariant-loop : goal.invariant-loop
invariant-loop g l =
    ((goal.iterator-loop g).can_next l.iterator' × (goal.iterator-loop g).is_finite l.iterator') × Drops l.fn.outlet l.outlet
