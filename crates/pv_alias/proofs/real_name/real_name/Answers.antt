use Rattle.std.proofs.Common.{rules, ◌≡◌}
use Rattle.pv_alias.specs.RealName.{captured, replaced, as_name, real_name}
use Rattle.pv_alias.proofs.RealNameLemmas.{real_name_from_captures}
use Rattle.pv_alias.proofs.real_name.real_name.Goals as goal

pub returns-clause-found : goal.returns-clause-found
returns-clause-found c regex pattern =
    let found = c.in-Some.ensures.found in
    let at_name = rw (pattern, c.text.ensures.text) at found.1 in
    let groups_of_name = rw c.text.ensures.text at found.2 in
    let is : real_name c.args.name.now regex c.args.real.now ≡ as_name (replaced (captured c.in-Some.groups) c.args.real.now)
    = real_name_from_captures c.args.name.now regex c.args.real.now found.0 c.in-Some.groups at_name groups_of_name in
    rw is (search rules)
