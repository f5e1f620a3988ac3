use Rattle.std.proofs.Common.{sym, ap, ◌∙◌}
use Rattle.link_table.specs.Counters.{began_again, begins_again, counter_of}
use Rattle.link_table.specs.LinkRows.{LinkRows}
use Rattle.link_table.specs.Numbers.{fitting, is_had}
use Rattle.link_table.proofs.HadLemmas.{next_is_free}
use Rattle.link_table.proofs.SearchLemmas.{given_free, never_began, next_searched, next_unsearched}
use Rattle.link_table.proofs.table.Links.next_number.Goals as goal

pub returns-then-is_searched-clause-found : goal.returns-then-is_searched-clause-found
returns-then-is_searched-clause-found c =
    c.searched.ensures.found ∙ next_searched c.args.counter c.args.reuses c.args.first c.args.server c.args.self.now (sym c.is_searched.ensures ∙ c.if-is_searched.true)

pub returns-else-is_searched-clause-found : goal.returns-else-is_searched-clause-found
returns-else-is_searched-clause-found c =
    c.fitting.ensures
    ∙ ap fitting (
    c.next.ensures ∙ ap (λ (r : LinkRows). counter_of c.args.counter r.counters) c.self.view_is
    ∙ next_unsearched c.args.counter c.args.reuses c.args.first c.args.server c.args.self.now (sym c.is_searched.ensures ∙ c.if-is_searched.false)
    )

pub returns-else-is_searched-clause-free : goal.returns-else-is_searched-clause-free
returns-else-is_searched-clause-free c = λ below.
    let rows = c.args.self.now in
    given_free (is_had c.args.counter c.args.server rows) c.fitting.result (counter_of c.args.counter rows.counters)
    (c.fitting.ensures ∙ ap fitting (c.next.ensures ∙ ap (λ (r : LinkRows). counter_of c.args.counter r.counters) c.self.view_is))
    (next_is_free c.args.counter c.args.server rows below
    (never_began (began_again c.args.counter rows.counters) (begins_again c.args.reuses (counter_of c.args.counter rows.counters)) (sym c.is_searched.ensures ∙ c.if-is_searched.false)))
