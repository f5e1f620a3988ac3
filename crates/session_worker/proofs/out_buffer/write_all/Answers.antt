use Rattle.std.proofs.Common.{refl}
use Rattle.session_worker.proofs.Keeping.{keeps_on, keeps_same}
use Rattle.session_worker.proofs.Writings.{writes_more, writes_none, written_all, written_till}
use Rattle.session_worker.proofs.out_buffer.write_all.Goals as goal

pub loop-at-init : goal.loop-at-init
loop-at-init g c = (writes_none c.args.bytes.now _, keeps_same (g.L.Link.unread c.args.link.now))

pub loop-at-preserved : goal.loop-at-preserved
loop-at-preserved g c = (
  writes_more c.args.bytes.now c.loop-at.at c.in-Ok.count _ _ _ c.loop-at.invariant.0 c.in-Ok.ensures.bound c.in-Ok.ensures.bytes c.saturating_add.ensures c.in-Ok.ensures.ok,
  keeps_on (g.L.Link.unread c.args.link.now) (g.L.Link.unread c.loop-at.link) (g.L.Link.unread c.write_piece.new.self) c.loop-at.invariant.1 c.write_piece.ensures.kept,
)

pub returns-in-Err-clause-written : goal.returns-in-Err-clause-written
returns-in-Err-clause-written g c = written_till c.args.bytes.now c.loop-at.at _ _ _ c.loop-at.invariant.0 c.in-Err.ensures.bytes c.in-Err.ensures.err refl

pub returns-in-Err-clause-kept : goal.returns-in-Err-clause-kept
returns-in-Err-clause-kept g c =
    keeps_on (g.L.Link.unread c.args.link.now) (g.L.Link.unread c.loop-at.link) (g.L.Link.unread c.write_piece.new.self) c.loop-at.invariant.1 c.write_piece.ensures.kept

pub returns-clause-written : goal.returns-clause-written
returns-clause-written g c = written_all c.args.bytes.now c.loop-at.at _ _ c.loop-at.invariant.0 c.loop-at-test.false

pub returns-clause-kept : goal.returns-clause-kept
returns-clause-kept g c = c.loop-at.invariant.1
