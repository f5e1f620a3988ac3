use Rattle.std.proofs.Common.{is_ok}
use Rattle.session_worker.proofs.Sending.{head_and_payload, head_part}
use Rattle.session_worker.proofs.writer.put_out.Goals as goal

pub returns-in-Err-clause-written : goal.returns-in-Err-clause-written
returns-in-Err-clause-written g c = head_part c.args.out.now c.args.buffer.now.held c.as_slice.result.now c.put.new.self.held _ _ c.as_slice.ensures c.in-Err.ensures.written

pub returns-clause-written : goal.returns-clause-written
returns-clause-written g c =
    head_and_payload (is_ok c.put-2.result) c.args.out.now c.args.buffer.now.held c.as_slice.result.now c.put.new.self.held c.as_slice-2.result.now c.put-2.new.self.held _ _ _ c.as_slice.ensures
    c.as_slice-2.ensures c.in-Ok.ensures.written c.put-2.ensures.written
