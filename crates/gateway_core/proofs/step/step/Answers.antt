use Rattle.std.proofs.Common.{sym, subst}
use Rattle.gateway_state.specs.Settled.{AreNumbersApart}
use Rattle.gateway_state.proofs.NumbersKept.{numbers_after_effect}
use Rattle.touched_rows.proofs.Ready.{ready_as}
use Rattle.gateway_core.proofs.BeforeReads.{order_without, ready_without}
use Rattle.gateway_core.proofs.ReadyStates.{reached_is_ready}
use Rattle.gateway_core.proofs.step.step.Goals as goal

-- a run's state is ready for an event
pub perform-requires : goal.perform-requires
perform-requires c = record { ready = reached_is_ready c.args.rows.now.state c.requires.reached }

-- numbers are apart after an event's direct effect, and clients know their rights
pub tell_consequences-requires : goal.tell_consequences-requires
tell_consequences-requires c = record {
  order =
      order_without c.in_ok-touched.touched c.perform.new.rows.state
      (subst AreNumbersApart (sym c.in_ok-touched.ensures.ok) (numbers_after_effect c.args.rows.now.state c.args.event c.requires.reached));
  told =
      ready_without c.in_ok-touched.touched c.perform.new.rows.state
      (ready_as c.args.rows.now.state c.args.event c.requires.reached _ _ c.in_ok-touched.ensures.touched c.in_ok-touched.ensures.ok);
}
