use Rattle.std.proofs.Common.{ℕ, sym, ap, ◌∙◌}
use Rattle.channel_table.specs.ClientRows.{has_channel}
use Rattle.link_table.specs.Numbers.{fitting}
use Rattle.link_table.proofs.SearchLemmas.{searched_is_next, unsearched_is_next}
use Rattle.gateway_state.specs.Clients.{sids_of}
use Rattle.gateway_rows.specs.BrandedState.{BrandedState}
use Rattle.gateway_rows.proofs.state.Known.next_sid.Goals as goal

pub returns-then-is_searched : goal.returns-then-is_searched
returns-then-is_searched c =
    let w = c.args.self.now.state in
    c.searched.ensures
    ∙ searched_is_next w.limits.reuses_numbers w.upstream.counters.again.sid w.config.first w.upstream.counters.sid
    (λ (sid : ℕ). has_channel c.args.number sid w.clients) (sids_of c.args.number w) (sym c.is_searched.ensures ∙ c.if-is_searched.true)

pub returns-else-is_searched : goal.returns-else-is_searched
returns-else-is_searched c =
    let w = c.args.self.now.state in
    c.fitting.ensures
    ∙ ap fitting (
    c.next.ensures ∙ ap (λ (s : BrandedState). s.state.upstream.counters.sid) c.self.view_is
    ∙ unsearched_is_next w.limits.reuses_numbers w.upstream.counters.again.sid w.config.first w.upstream.counters.sid
    (λ (sid : ℕ). has_channel c.args.number sid w.clients) (sids_of c.args.number w) (sym c.is_searched.ensures ∙ c.if-is_searched.false)
    )
