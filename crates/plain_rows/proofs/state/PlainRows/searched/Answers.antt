use Rattle.std.proofs.Common.{◌≡◌, suc, ◌+◌, ◌*◌, length, sym, ap, ◌∙◌, arith}
use Rattle.link_table.specs.Counters.{counter_of, first_free}
use Rattle.link_table.specs.Numbers.{fitting_one}
use Rattle.link_table.proofs.SearchLemmas.{enough_tries}
use Rattle.gateway_state.specs.Gateway.{Gateway}
use Rattle.plain_rows.specs.Numbers.{is_taken, taken}
use Rattle.plain_rows.proofs.TakenNumbers.{taken_is_there}
use Rattle.plain_rows.proofs.state.PlainRows.searched.Goals as goal

-- one try more than there are numbers is enough
pub returns : goal.returns
returns c =
    let w = c.args.self.now in
    let had = is_taken c.args.counter c.args.owner w in
    let numbers = taken c.args.counter c.args.owner w in
    let tries = c.row_count.result * 2 + 1 in
    let few = c.row_count.ensures in
    c.first_free.ensures
    ∙ ap (λ (v : Gateway). fitting_one (first_free v.limits.reuses_numbers v.config.first had tries c.next-next.result)) c.self.view_is
    ∙ ap fitting_one
    (enough_tries w.limits.reuses_numbers w.config.first had numbers tries c.next-next.result (taken_is_there c.args.counter c.args.owner w) (omega (arith, few))
    ∙ ap (first_free w.limits.reuses_numbers w.config.first had (suc (length numbers))) (c.next-next.ensures ∙ ap (λ (v : Gateway). counter_of c.args.counter v.upstream.counters) c.self.view_is))
