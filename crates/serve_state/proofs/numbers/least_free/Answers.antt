use Rattle.std.proofs.Common.{rules, arith}
use Rattle.std.proofs.lemmas.Grind.{common_steps}
use Rattle.serve_state.proofs.RosterLemmas.{first_is_least, none_is_full}
use Rattle.serve_state.proofs.numbers.least_free.Goals as goal

pub returns-in-Some-clause-ok : goal.returns-in-Some-clause-ok
returns-in-Some-clause-ok g c =
    first_is_least c.args.rows.now c.args.clients c.enough.result c.in-Some.number c.deref_mut.result.now c.deref.result.now c.enough.ensures
    (first_of (search rules, cc, grind (arith, common_steps)))
    (first_of (search rules, cc, grind (arith, common_steps)))
    (first_of (search rules, cc, grind (arith, common_steps)))

pub returns-in-None-clause-full : goal.returns-in-None-clause-full
returns-in-None-clause-full g c = λ _.
    none_is_full c.args.rows.now c.args.clients c.enough.result c.deref_mut.result.now c.deref.result.now c.enough.ensures
    (first_of (search rules, cc, grind (arith, common_steps)))
    (first_of (search rules, cc, grind (arith, common_steps)))
    (first_of (search rules, cc, grind (arith, common_steps)))
