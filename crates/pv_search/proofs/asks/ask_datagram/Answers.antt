use Rattle.std.proofs.Common.{refl, arith}
use Rattle.pv_search.proofs.Fitting.{asking-all, asking-full, asking-more, first_fits}
use Rattle.pv_search.proofs.asks.ask_datagram.Goals as goal
use Rattle.pv_search.proofs.asks.ask_datagram.Goals.{else-loop-ask-test, then-loop-ask-test+in_ok-fits+else-fits}

pub loop-ask-preserved : goal.loop-ask-preserved
loop-ask-preserved c =
    asking-more c.args.asks.now c.loop-ask.ask-index c.loop-ask.asked c.ask-item.result c.loop-ask.text.items _ _ c.loop-ask-test.true c.ask-item.is c.if-fits.true c.in_ok-fits.ensures.added c.loop-ask.invariant

pub returns-clause-datagram : goal.returns-clause-datagram
returns-clause-datagram c =
    elim c.loop-ask-test.branch [
      | else-loop-ask-test w ↦
          rw w.text-is (asking-all c.args.asks.now c.loop-ask.ask-index c.loop-ask.asked _ w.loop-ask-test.false (omega arith) refl c.loop-ask.invariant)
      | then-loop-ask-test+in_ok-fits+else-fits w ↦
          rw w.text-is (asking-full c.args.asks.now c.loop-ask.ask-index c.loop-ask.asked w.ask-item.result c.loop-ask.text.items _ _ w.loop-ask-test.true w.ask-item.is w.if-fits.false w.in_ok-fits.ensures.added refl c.loop-ask.invariant)
    ]

pub returns-clause-some : goal.returns-clause-some
returns-clause-some c = λ some.
    elim c.loop-ask-test.branch [
      | else-loop-ask-test w ↦ let same = c.loop-ask.invariant.same in let all = w.loop-ask-test.false in omega arith
      | then-loop-ask-test+in_ok-fits+else-fits w ↦
          first_fits c.args.asks.now c.loop-ask.ask-index c.loop-ask.asked w.ask-item.result c.loop-ask.text.items _ _ w.in_ok-fits.ensures.name w.if-fits.false w.in_ok-fits.ensures.added c.loop-ask.invariant
    ]
