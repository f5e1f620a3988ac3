use Rattle.std.proofs.Common.{sym, ap, subst, ◌∙◌}
use Rattle.std.proofs.lemmas.Result.{err_from_is_err_and}
use Rattle.gateway_rows.specs.CountedState.{CountedState}
use Rattle.gateway_state.specs.declared.event.Event.TheVariants.{Drain}
use Rattle.gateway_state.specs.Direct.{drained}
use Rattle.gateway_state.specs.Numbers.{is_past_numbers}
use Rattle.gateway_state.specs.Settled.{AreNumbersApart}
use Rattle.gateway_state.proofs.NumbersKept.{numbers_after_effect}
use Rattle.touched_rows.specs.Touches.{drain_touches, consequences_of, with_touched}
use Rattle.touched_rows.proofs.KeptLate.{drain_keeps_none}
use Rattle.touched_rows.proofs.Ready.{ready_as}
use Rattle.touched_rows.proofs.ToldAlone.{step_alone}
use Rattle.gateway_core.proofs.step.drain.Goals as goal

-- what was refused is what follows from the drain, which touches no read
pub returns-in_err-tell_consequences-clause-used_up : goal.returns-in_err-tell_consequences-clause-used_up
returns-in_err-tell_consequences-clause-used_up c = λ e.
    let refused = err_from_is_err_and c.from_residual-in_err-tell_consequences.result c.from_residual-in_err-tell_consequences.ensures.1 in
    let returned = refused.1 in
    let converted = refused.2 in
    let was = c.in_err-tell_consequences.was in
    let same = c.drain_touches-touched.ensures ∙ ap (λ (rows : CountedState). drain_touches rows.state c.args.dest) c.rows.view_is in
    let took = c.in_ok-outs.ensures.ok ∙ ap (λ (rows : CountedState). drained rows.state c.args.dest c.args.count) c.rows.view_is in
    let kept = ap (λ t. with_touched t c.take.new.self.state) same ∙ drain_keeps_none c.take.new.self.state c.args.rows.now.state c.args.dest in
    ap is_past_numbers (step_alone c.args.rows.now.state (Drain c.args.dest c.args.count) c.requires.reached)
    ∙ (λ i. is_past_numbers (consequences_of (sym same i) (sym took i)))
    ∙ ap (λ w. is_past_numbers (consequences_of c.drain_touches-touched.result w)) (sym kept)
    ∙ c.tell_consequences.ensures.used_up cc

pub returns-clause-ok : goal.returns-clause-ok
returns-clause-ok c =
    let same = c.drain_touches-touched.ensures ∙ ap (λ (rows : CountedState). drain_touches rows.state c.args.dest) c.rows.view_is in
    let took = c.in_ok-outs.ensures.ok ∙ ap (λ (rows : CountedState). drained rows.state c.args.dest c.args.count) c.rows.view_is in
    let kept = ap (λ t. with_touched t c.take.new.self.state) same ∙ drain_keeps_none c.take.new.self.state c.args.rows.now.state c.args.dest in
    c.in_ok-tell_consequences.ensures.ok
    ∙ ap (consequences_of c.drain_touches-touched.result) kept
    ∙ (λ i. consequences_of (same i) (took i))
    ∙ sym (step_alone c.args.rows.now.state (Drain c.args.dest c.args.count) c.requires.reached)

-- numbers are apart after a drain, and clients know their rights
pub tell_consequences-requires : goal.tell_consequences-requires
tell_consequences-requires c =
    let same = c.drain_touches-touched.ensures ∙ ap (λ (rows : CountedState). drain_touches rows.state c.args.dest) c.rows.view_is in
    let took = c.in_ok-outs.ensures.ok ∙ ap (λ (rows : CountedState). drained rows.state c.args.dest c.args.count) c.rows.view_is in
    record {
      order = subst AreNumbersApart (sym took) (numbers_after_effect c.args.rows.now.state (Drain c.args.dest c.args.count) c.requires.reached);
      told = ready_as c.args.rows.now.state (Drain c.args.dest c.args.count) c.requires.reached _ _ same took;
    }
