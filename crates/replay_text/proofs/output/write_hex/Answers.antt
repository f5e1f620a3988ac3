use Rattle.replay_text.proofs.OutputLemmas.{Appends-encode_lower, Appends-encode_lower-empty}
use Rattle.replay_text.proofs.output.write_hex.Goals as goal
use Rattle.std.proofs.Common.{sym, ◌∙◌}

pub loop-rest-preserved : goal.loop-rest-preserved
loop-rest-preserved g c = λ written more.
    let text = rw c.unwrap.ensures at c.encode_to_slice.ensures.written in
    let piece = rw (text, c.split_at.ensures.front) at c.in_ok-write_all.ensures.bytes in
    c.loop-rest.invariant written
    (Appends-encode_lower _ _ written c.loop-rest.rest.now c.min.result piece (rw c.split_at.ensures.back at more))

pub returns : goal.returns
returns g c =
    record { ok = c.loop-rest.invariant _ (Appends-encode_lower-empty _ _ (sym c.is_empty.ensures ∙ c.loop-rest-test.false)) }
