use Rattle.std.proofs.Common.{ℕ}
use Rattle.ca_header.specs.Header.{message_text}
use Rattle.pv_search.specs.Reply.{found, search_reply}
use Rattle.pv_search.proofs.Writing.{written_on}
use Rattle.pv_search.proofs.reply.search_reply.Goals as goal

pub loop-cid-preserved : goal.loop-cid-preserved
loop-cid-preserved c =
    written_on (λ (cid : ℕ). message_text (found c.args.port cid)) c.args.cids.now c.loop-cid.cid-index c.loop-cid.reply.items c.add_found.new.reply.items (search_reply c.args.port c.args.cids.now) c.loop-cid-test.true c.in_ok-add_found.ensures c.loop-cid.invariant
