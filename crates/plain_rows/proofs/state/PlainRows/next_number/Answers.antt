use Rattle.std.proofs.Common.{sym, ap, ◌∙◌}
use Rattle.link_table.specs.Counters.{began_again, counter_of}
use Rattle.link_table.specs.Numbers.{fitting}
use Rattle.link_table.proofs.SearchLemmas.{searched_is_next, unsearched_is_next}
use Rattle.gateway_state.specs.Gateway.{Gateway}
use Rattle.plain_rows.specs.Numbers.{is_taken, taken}
use Rattle.plain_rows.proofs.state.PlainRows.next_number.Goals as goal

pub returns-then-is_searched : goal.returns-then-is_searched
returns-then-is_searched c =
    let w = c.args.self.now in
    c.searched.ensures
    ∙ searched_is_next w.limits.reuses_numbers (began_again c.args.counter w.upstream.counters) w.config.first (counter_of c.args.counter w.upstream.counters)
    (is_taken c.args.counter c.args.owner w) (taken c.args.counter c.args.owner w) (sym c.is_searched.ensures ∙ c.if-is_searched.true)

pub returns-else-is_searched : goal.returns-else-is_searched
returns-else-is_searched c =
    let w = c.args.self.now in
    c.fitting.ensures
    ∙ ap fitting (
    c.next.ensures ∙ ap (λ (v : Gateway). counter_of c.args.counter v.upstream.counters) c.self.view_is
    ∙ unsearched_is_next w.limits.reuses_numbers (began_again c.args.counter w.upstream.counters) w.config.first (counter_of c.args.counter w.upstream.counters)
    (is_taken c.args.counter c.args.owner w) (taken c.args.counter c.args.owner w) (sym c.is_searched.ensures ∙ c.if-is_searched.false)
    )
