use Rattle.replay_text.proofs.OutputLemmas.{Appends-name, Appends-names_end}
use Rattle.replay_text.proofs.output.write_names.Goals as goal

pub loop-name-preserved : goal.loop-name-preserved
loop-name-preserved g c = λ written more.
    let text = rw (c.as_bytes.ensures.value, c.text.ensures.text) at c.in_ok-write_all-2.ensures.bytes in
    c.loop-name.invariant written
    (Appends-name c.args.names.now c.loop-name.name-index c.name-item.result _ _ _ written
    c.loop-name-test.true c.name-item.is c.in_ok-write_all.ensures.bytes text more)

pub returns : goal.returns
returns g c =
    record { ok = c.loop-name.invariant _ (Appends-names_end c.args.names.now c.loop-name.name-index _ c.loop-name-test.false) }
