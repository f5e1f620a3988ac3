use Rattle.std.proofs.Common.{ap, ◌+◌, ◌∙◌, length, sym}
use Rattle.std.proofs.lemmas.Iterator.Consumers.{YieldsList-end, YieldsList-turn}
use Rattle.std.proofs.lemmas.Iterator.Splits.{YieldsList-from_lines}
use Rattle.std.specs.Str.Lines.{lines}
use Rattle.pvlist.specs.RuleFile.{IsRulingOf, RefusesLine}
use Rattle.pvlist.proofs.FileLemmas.{first_fault, refuses_line, says-all, says-more, length-more, IsRulingOf-more}
use Rattle.pvlist.proofs.rules.Rules.read_as.Goals as goal

pub returns-in-Err-clause-err : goal.returns-in-Err-clause-err
returns-in-Err-clause-err c =
    let turn = YieldsList-turn (YieldsList-from_lines c.args.text.now cc) c.loop-line.yielded _ c.loop-line.yielded_by _ _ c.in-Some.line c.in-Some.is c.next.ensures.steps in
    rw (c.at.ensures, c.loop-line.invariant.count)
    (first_fault (IsRulingOf c.args.syntax) (RefusesLine c.args.syntax) (lines c.args.text.now) (length c.loop-line.yielded) c.in-Some.line.now c.loop-line.rules c.in-Err.fault turn.0 turn.1 c.loop-line.invariant.says
    (refuses_line c.args.syntax c.loop-line.rules c.in-Some.line.now c.in-Err.fault c.in-Err.ensures.err))

pub loop-line-preserved : goal.loop-line-preserved
loop-line-preserved c =
    let turn = YieldsList-turn (YieldsList-from_lines c.args.text.now cc) c.loop-line.yielded _ c.loop-line.yielded_by _ _ c.in-Some.line c.in-Some.is c.next.ensures.steps in
    record {
      says = says-more (IsRulingOf c.args.syntax) (lines c.args.text.now) c.loop-line.yielded c.in-Some.line c.in-Some.line.now c.take_line.new.self turn.0 turn.1
          (IsRulingOf-more c.args.syntax _ _ _ _ c.loop-line.invariant.says c.in_default.ensures.ok);
      count = ap (λ n. n + 1) c.loop-line.invariant.count ∙ sym (length-more c.loop-line.yielded c.in-Some.line);
    }

pub returns-clause-ok : goal.returns-clause-ok
returns-clause-ok c =
    let end = YieldsList-end (YieldsList-from_lines c.args.text.now cc) c.loop-line.yielded _ c.loop-line.yielded_by _ _ c.in-None.is c.next.ensures.steps in
    says-all (IsRulingOf c.args.syntax) (lines c.args.text.now) c.loop-line.yielded c.loop-line.rules end.1 c.loop-line.invariant.says
