use Rattle.std.proofs.Common.{◌≡◌, ◌-◌, ◌≤◌, [], get_or, length, ap, sym, ◌∙◌, arith}
use Rattle.std.proofs.lemmas.Bool.Decides.{nat_tests}
use Rattle.std.proofs.lemmas.Iterator.Consumers.{YieldsList-end, YieldsList-turn}
use Rattle.std.proofs.lemmas.Iterator.Splits.{YieldsList-from_lines}
use Rattle.std.proofs.lemmas.List.{get_or_default, get_or_past}
use Rattle.std.specs.Str.Lines.{lines}
use Rattle.rule_desk.proofs.said.line_at.Goals as goal

pub returns-then-passed-place : goal.returns-then-passed-place
returns-then-passed-place c =
    let turn = YieldsList-turn (YieldsList-from_lines c.args.text.now cc) c.loop-line.yielded _ c.loop-line.yielded_by _ _ c.in-Some.line c.in-Some.is c.next.ensures.steps in
    let passed = c.loop-line.invariant.passed in
    let is_place = c.if-passed-place.true in
    let place = c.saturating_sub-place.ensures in
    let at : length c.loop-line.yielded ≡ c.args.number - 1 = grind (arith, nat_tests) in
    turn.1 ∙ sym (get_or_default (lines c.args.text.now) _ [] _ turn.0) ∙ ap (λ n. get_or (lines c.args.text.now) n []) at

pub returns : goal.returns
returns c =
    let end = YieldsList-end (YieldsList-from_lines c.args.text.now cc) c.loop-line.yielded _ c.loop-line.yielded_by _ _ c.in-None.is c.next.ensures.steps in
    let passed = c.loop-line.invariant.passed in
    let before = c.loop-line.invariant.before in
    let place = c.saturating_sub-place.ensures in
    let all = end.1 in
    let past : length (lines c.args.text.now) ≤ c.args.number - 1 = grind (arith, nat_tests) in
    sym (get_or_past (lines c.args.text.now) _ [] past)
