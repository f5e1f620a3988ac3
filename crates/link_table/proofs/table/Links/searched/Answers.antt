use Rattle.std.proofs.Common.{suc, ◌+◌, ◌*◌, length, ap, ◌∙◌, arith}
use Rattle.link_table.specs.Counters.{counter_of, first_free}
use Rattle.link_table.specs.LinkRows.{LinkRows}
use Rattle.link_table.specs.Numbers.{fitting_one, is_had, numbers_had}
use Rattle.link_table.proofs.HadLemmas.{had_is_there}
use Rattle.link_table.proofs.SearchLemmas.{enough_tries}
use Rattle.link_table.proofs.table.Links.searched.Goals as goal

-- one try more than there are numbers is enough
pub returns-clause-found : goal.returns-clause-found
returns-clause-found c =
    let rows = c.args.self.now in
    let had = is_had c.args.counter c.args.server rows in
    let numbers = numbers_had c.args.counter c.args.server rows in
    c.first_free.ensures.found
    ∙ ap fitting_one
    (enough_tries c.args.reuses c.args.first had numbers (c.row_count.result * 2 + 1) c.next-next.result (had_is_there c.args.counter c.args.server rows)
    (let few = c.row_count.ensures in omega (arith, few))
    ∙ ap (first_free c.args.reuses c.args.first had (suc (length numbers))) (c.next-next.ensures ∙ ap (λ (r : LinkRows). counter_of c.args.counter r.counters) c.self.view_is))
