use Rattle.std.proofs.Common.{◌≡◌, ℕ}
use Rattle.channel_table.specs.ClientRows.{has_channel}
use Rattle.link_table.specs.Counters.{first_free}
use Rattle.link_table.specs.Numbers.{fitting_one}
use Rattle.gateway_rows.proofs.numbers.free_sid.Given as goal

-- what is left decides
abbrev pub invariant-loop-left : goal.invariant-loop-left
invariant-loop-left l =
    let had = λ (sid : ℕ). has_channel l.number sid l.clients.rows in
    fitting_one (first_free l.reuses l.first had l.left l.next) ≡ fitting_one (first_free l.reuses l.first had l.fn.tries l.fn.next)

abbrev pub decreases-loop-left : goal.decreases-loop-left
decreases-loop-left l = l.left
