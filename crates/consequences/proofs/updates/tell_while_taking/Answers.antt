use Rattle.std.proofs.Common.{◌≡◌, false, ap, arith, rules, subst, sym, ◌∙◌}
use Rattle.gateway_rows.specs.BrandedState.{BrandedState}
use Rattle.gateway_rows.specs.CountedState.{CountedState}
use Rattle.gateway_state.specs.Updates.{takes_updates}
use Rattle.gateway_state.specs.Told.{KnowRights}
use Rattle.consequences.specs.InTurn.{told_in_turn}
use Rattle.consequences.proofs.NextNotice.{told_next}
use Rattle.consequences.proofs.TellingInTurn.{know_rights_next, none_left}
use Rattle.consequences.proofs.updates.tell_while_taking.Goals as goal

-- one more subscription is told what was due to it
pub loop-sub-preserved : goal.loop-sub-preserved
loop-sub-preserved c =
    let before = c.loop-sub.invariant in
    let told = c.in_ok-tell_one_update.ensures in
    record {
      rest = told_next told_in_turn c.tell_one_update.new.rows.state c.loop-sub.rows.state _ c.args.subs.now c.loop-sub.sub-index _ (omega (arith, c.loop-sub-test.true)) told.ok before.rest;
      told = subst KnowRights (sym told.ok) (know_rights_next c.loop-sub.rows.state _ before.told);
      looked = (told.looked.0 ∙ before.looked.0, omega (arith, told.looked.1, before.looked.1));
    }

-- its outbox takes no more: those that are left are told nothing
pub returns-then-not-takes_updates-clause-ok : goal.returns-then-not-takes_updates-clause-ok
returns-then-not-takes_updates-clause-ok c =
    let closed : c.takes_updates.result ≡ false = search rules in
    let full : takes_updates c.loop-sub.rows.state c.args.number ≡ false =
    ap (λ (s : CountedState). takes_updates s.state c.args.number) (sym c.rows.view_is) ∙ sym c.takes_updates.ensures ∙ closed in
    ap (λ (k : BrandedState). k.state) c.note_held.ensures.same
    ∙ ap (λ (s : CountedState). s.state) c.rows.view_is
    ∙ none_left c.loop-sub.rows.state _ c.args.number c.args.subs.now c.loop-sub.sub-index c.requires.of full c.loop-sub.invariant.rest
