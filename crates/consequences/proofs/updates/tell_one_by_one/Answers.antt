use Rattle.std.proofs.Common.{arith, subst, sym, ◌∙◌}
use Rattle.gateway_state.specs.Told.{KnowRights}
use Rattle.consequences.specs.InTurn.{told_in_turn}
use Rattle.consequences.proofs.NextNotice.{told_next}
use Rattle.consequences.proofs.TellingInTurn.{know_rights_next}
use Rattle.consequences.proofs.updates.tell_one_by_one.Goals as goal

-- one more subscription is told what was due to it
pub loop-sub-preserved : goal.loop-sub-preserved
loop-sub-preserved c =
    let before = c.loop-sub.invariant in
    let told = c.in_ok-tell_one_update.ensures in
    record {
      rest = told_next told_in_turn c.tell_one_update.new.rows.state c.loop-sub.rows.state _ c.args.subs.now c.loop-sub.sub-index _ (omega (arith, c.loop-sub-test.true)) told.ok before.rest;
      told = subst KnowRights (sym told.ok) (know_rights_next c.loop-sub.rows.state _ before.told);
      looked = (told.looked.0 ∙ before.looked.0, omega (arith, told.looked.1, before.looked.1));
    }
