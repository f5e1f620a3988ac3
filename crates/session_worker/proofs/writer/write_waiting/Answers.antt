use Rattle.std.proofs.Common.{is_ok, refl}
use Rattle.session_worker.proofs.Keeping.{keeps_on}
use Rattle.session_worker.proofs.Sending.{sends_held, sends_more}
use Rattle.session_worker.proofs.writer.write_waiting.Goals as goal

pub returns-clause-sent : goal.returns-clause-sent
returns-clause-sent g c = sends_more (is_ok c.flush.result) _ _ _ c.in-Ok.ensures.sent (sends_held (is_ok c.flush.result) _ _ refl c.flush.ensures.written)

pub returns-clause-kept : goal.returns-clause-kept
returns-clause-kept g c =
    keeps_on (g.L.Link.unread c.args.link.now) (g.L.Link.unread c.put_waiting.new.link) (g.L.Link.unread c.flush.new.link) c.put_waiting.ensures.kept c.flush.ensures.kept
