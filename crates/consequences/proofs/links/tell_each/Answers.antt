use Rattle.std.proofs.Common.{sym, subst, arith, ◌∙◌}
use Rattle.std.proofs.lemmas.Result.{err_from_is_err_and}
use Rattle.gateway_state.specs.Settled.{AreNumbersApart}
use Rattle.gateway_state.proofs.NumberLemmas.{notices_told_past_at}
use Rattle.gateway_state.proofs.NumbersKept.{numbers_told}
use Rattle.gateway_state.specs.Notices.{link_told}
use Rattle.consequences.proofs.NextNotice.{told_next}
use Rattle.consequences.proofs.links.tell_each.Goals as goal

-- what was refused is the notice at the place that the loop came to
pub returns-in_err-tell_link-clause-used_up : goal.returns-in_err-tell_link-clause-used_up
returns-in_err-tell_link-clause-used_up c = λ e.
    let refused = err_from_is_err_and c.from_residual.result c.from_residual.ensures.1 in
    let returned = refused.1 in
    let converted = refused.2 in
    let was = c.in_err-tell_link.was in
    notices_told_past_at c.loop-notice.known.state _ _ c.loop-notice.notice-index _ (omega (arith, c.loop-notice-test.true)) c.loop-notice.invariant.rest (c.tell_link.ensures.used_up cc)

-- a notice that is told leaves numbers apart
pub loop-notice-preserved : goal.loop-notice-preserved
loop-notice-preserved c = record {
  order = subst AreNumbersApart (sym c.in_ok-tell_link.ensures.ok) (numbers_told c.loop-notice.known.state _ c.loop-notice.invariant.order);
  rest = told_next link_told c.tell_link.new.known.state c.loop-notice.known.state _ c.args.notices.now c.loop-notice.notice-index _ (omega (arith, c.loop-notice-test.true)) c.in_ok-tell_link.ensures.ok c.loop-notice.invariant.rest;
  brand = c.in_ok-tell_link.ensures.brand ∙ c.loop-notice.invariant.brand;
}
