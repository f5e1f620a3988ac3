use Rattle.std.proofs.Common.{◌≤◌, length, sym, arith}
use Rattle.std.proofs.lemmas.Bool.Decides.{nat_tests}
use Rattle.std.proofs.lemmas.List.{length-take-le, take_all}
use Rattle.rule_desk.proofs.said.front.Goals as goal

pub slice_bounds-result-end : goal.slice_bounds-result-end
slice_bounds-result-end c =
    let longer = c.if-line-le-MOST.false in
    let long : 200 ≤ length c.args.line.now = grind (arith, nat_tests) in
    sym (length-take-le 200 c.args.line.now long)

pub returns-then-line-le-MOST : goal.returns-then-line-le-MOST
returns-then-line-le-MOST c =
    let shorter = c.if-line-le-MOST.true in
    let short : length c.args.line.now ≤ 200 = grind (arith, nat_tests) in
    sym (take_all 200 c.args.line.now short)
