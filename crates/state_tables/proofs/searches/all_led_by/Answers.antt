use Rattle.std.proofs.Common.{◌∙◌}
use Rattle.state_tables.proofs.SearchChanges.{led_so_far}
use Rattle.state_tables.proofs.searches.all_led_by.Goals as goal

pub loop-row-preserved : goal.loop-row-preserved
loop-row-preserved c =
    let at = c.loop-row in
    let led = c.in_ok-add_led.ensures.led at.invariant.0 at.invariant.1.0 in (
      c.in_ok-add_led.ensures.rules ∙ at.invariant.0,
      (led.0, led_so_far c.args.rows.now at.row-index c.row-item.result _ _ c.loop-row-test.true c.row-item.is at.invariant.1.1 led.1),
    )
