use Rattle.std.proofs.Common.{ℕ, List, ◌+◌, Some, option_map, ap, ◌∙◌, sym, length}
use Rattle.std.proofs.lemmas.Iterator.Consumers.{YieldsList-end, YieldsList-turn}
use Rattle.std.proofs.lemmas.Iterator.Splits.{YieldsList-from_lines}
use Rattle.std.specs.Str.Lines.{lines}
use Rattle.pvlist.specs.BareGroups.{is_bare_row}
use Rattle.pvlist.specs.Words.{words}
use Rattle.pvlist.proofs.FileLemmas.{before-more, first_line, no_line, length-more}
use Rattle.pvlist.proofs.bare_groups.first_bare_group.Goals as goal

pub loop-line-preserved : goal.loop-line-preserved
loop-line-preserved c =
    let turn = YieldsList-turn (YieldsList-from_lines c.args.text.now cc) c.loop-line.yielded _ c.loop-line.yielded_by _ _ c.in-Some.line c.in-Some.is c.next.ensures.steps in
    record {
      before = before-more (λ (line : List ℕ). is_bare_row (words line)) (lines c.args.text.now) c.loop-line.yielded c.in-Some.line c.in-Some.line.now
          turn.0 turn.1 c.loop-line.invariant.before (sym c.is_bare_row.ensures ∙ c.if-is_bare_row.false);
      count = ap (λ n. n + 1) c.loop-line.invariant.count ∙ sym (length-more c.loop-line.yielded c.in-Some.line);
    }

pub returns-then-is_bare_row : goal.returns-then-is_bare_row
returns-then-is_bare_row c =
    let turn = YieldsList-turn (YieldsList-from_lines c.args.text.now cc) c.loop-line.yielded _ c.loop-line.yielded_by _ _ c.in-Some.line c.in-Some.is c.next.ensures.steps in
    ap (λ n. Some (n + 1)) c.loop-line.invariant.count
    ∙ sym (ap (option_map (λ place. place + 1))
    (first_line (λ (line : List ℕ). is_bare_row (words line)) (lines c.args.text.now) (length c.loop-line.yielded) c.in-Some.line.now
    turn.0 turn.1 c.loop-line.invariant.before (sym c.is_bare_row.ensures ∙ c.if-is_bare_row.true)))

pub returns : goal.returns
returns c =
    let end = YieldsList-end (YieldsList-from_lines c.args.text.now cc) c.loop-line.yielded _ c.loop-line.yielded_by _ _ c.in-None.is c.next.ensures.steps in
    sym (ap (option_map (λ place. place + 1))
    (no_line (λ (line : List ℕ). is_bare_row (words line)) (lines c.args.text.now) (rw end.1 at c.loop-line.invariant.before)))
