use Rattle.std.proofs.Common.{◌∙◌, refl, rules}
use Rattle.session_worker.proofs.Hearing.{begins, goes_further, held_fits, stops_after}
use Rattle.session_worker.proofs.Keeping.{keeps_on, keeps_same}
use Rattle.session_worker.proofs.reader.hear_all.Goals as goal

pub loop-init : goal.loop-init
loop-init g c =
    let start = begins _ c.new-intake.result c.new-intake.ensures in
    ((tt, tt), (start.0, (start.1, (search rules, (refl, keeps_same (g.L.Link.written c.args.link.now))))))

pub loop-preserved : goal.loop-preserved
loop-preserved g c =
    let kept = c.loop.invariant.1 in
    let on = c.in-More.ensures.heard in
    let same = keeps_on (g.L.Link.written c.args.link.now) (g.L.Link.written c.loop.link) (g.L.Link.written c.hear.new.link) kept.1.1.1.1 c.hear.ensures.kept in (
      (tt, tt),
      (goes_further _ _ _ _ _ kept.0 on, (held_fits _ _ _ _ kept.1.0 on, (c.hear.ensures.room ∙ kept.1.1.0, (c.hear.ensures.ring ∙ kept.1.1.1.0, same)))),
    )

pub returns-in-End-clause-stops : goal.returns-in-End-clause-stops
returns-in-End-clause-stops g c = stops_after _ _ _ _ _ c.loop.invariant.1.0 c.in-End.ensures.heard

pub returns-in-End-clause-kept : goal.returns-in-End-clause-kept
returns-in-End-clause-kept g c =
    keeps_on (g.L.Link.written c.args.link.now) (g.L.Link.written c.loop.link) (g.L.Link.written c.hear.new.link) c.loop.invariant.1.1.1.1.1 c.hear.ensures.kept
