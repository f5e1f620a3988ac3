use Rattle.std.proofs.Common.{arith, ◌∙◌}
use Rattle.direct_effect.proofs.GivenUp.{given_up_next, looks_next}
use Rattle.direct_effect.proofs.age.give_up_on_all.Goals as goal

-- one more is given up
pub loop-one-preserved : goal.loop-one-preserved
loop-one-preserved c =
    let at = c.loop-one in (
      given_up_next c.give_up_on.new.rows.state at.rows.state _ c.args.overdue.now at.one-index c.one-item.result c.loop-one-test.true c.one-item.is c.in_ok-give_up_on.ensures.ok at.invariant.0,
      looks_next c.give_up_on.new.rows.state at.rows.state c.args.overdue.now at.one-index at.rows.count.looks c.give_up_on.new.rows.count.looks _ c.one-item.result c.loop-one-test.true c.one-item.is
          c.in_ok-give_up_on.ensures.ok
          c.in_ok-give_up_on.ensures.bound
          at.invariant.1,
      (c.give_up_on.ensures.looked.0 ∙ at.invariant.2.0, omega (arith, c.give_up_on.ensures.looked.1, at.invariant.2.1)),
    )
