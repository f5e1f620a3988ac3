use Rattle.std.proofs.Common.{◌≡◌}
use Rattle.link_table.specs.Counters.{first_free}
use Rattle.link_table.specs.Numbers.{fitting_one}
use Rattle.plain_rows.specs.Numbers.{is_taken}
use Rattle.plain_rows.proofs.state.PlainRows.first_free.Given as goal

-- what is left decides
abbrev pub invariant-loop-left : goal.invariant-loop-left
invariant-loop-left l =
    let had = is_taken l.counter l.owner l.self in
    fitting_one (first_free l.reuses l.first had l.left l.next)
    ≡ fitting_one (first_free l.reuses l.first had l.fn.tries l.fn.next)

abbrev pub decreases-loop-left : goal.decreases-loop-left
decreases-loop-left l = l.left
