use Rattle.std.proofs.Common.{◌≡◌, true, arith, ap, subst, sym, ◌∙◌}
use Rattle.std.specs.List.{All}
use Rattle.gateway_state.specs.Gateway.{Gateway}
use Rattle.gateway_state.specs.Told.{KnowRights}
use Rattle.gateway_state.specs.Updates.{is_sub_to}
use Rattle.consequences.specs.Giving.{GivesOf}
use Rattle.consequences.specs.InTurn.{told_once}
use Rattle.consequences.proofs.NextNotice.{told_next}
use Rattle.consequences.proofs.Turns.{gives_then, know_rights_then, on_then}
use Rattle.touched_rows.specs.Concern.{passes}
use Rattle.consequences.proofs.walk.tell_each.Goals as goal

-- one more subscription had its turn
pub loop-sub-preserved : goal.loop-sub-preserved
loop-sub-preserved c =
    let before = c.loop-sub.invariant in
    let told = c.in_ok-tell_in_turn.ensures in
    let test = passes c.args.concern in
    record {
      rest = told_next (told_once test) c.tell_in_turn.new.rows.state c.loop-sub.rows.state _ c.args.subs.now c.loop-sub.sub-index _ (omega (arith, c.loop-sub-test.true)) told.ok before.rest;
      told = subst KnowRights (sym told.ok) (know_rights_then test c.loop-sub.rows.state _ before.told);
      on = subst (λ w. All (λ sub. is_sub_to w c.args.name.now sub ≡ true) c.args.subs.now) (sym told.ok) (on_then test c.loop-sub.rows.state _ c.args.name.now c.args.subs.now before.on);
      gives = subst (λ (w : Gateway). GivesOf w c.args.name.now c.tell_in_turn.new.giving) (sym told.ok) (gives_then test c.loop-sub.rows.state _ c.args.name.now c.tell_in_turn.new.giving told.gives);
      looked = (
        told.looked.0 ∙ before.looked.0,
        omega (arith, told.looked.1, before.looked.1),
        omega (arith, told.looked.2, before.looked.2),
      );
    }
