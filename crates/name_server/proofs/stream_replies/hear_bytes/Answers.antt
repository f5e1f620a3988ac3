use Rattle.std.proofs.lemmas.List.{take_rest}
use Rattle.name_server.proofs.Wholes.{heard}
use Rattle.name_server.proofs.stream_replies.hear_bytes.Goals as goal

pub returns-clause-heard : goal.returns-clause-heard
returns-clause-heard c =
    heard c.args.bytes.now _ c.in_ok-len.len _ (λ k. (c.type_inv.bytes k).fits) c.in_ok-len.ensures.ok c.in_ok-replies.ensures
    (rw (take_rest c.args.bytes.now c.in_ok-len.len) at c.in_ok-left.ensures)
