use Rattle.std.proofs.Common.{◌≡◌, true, false, rules, arith}
use Rattle.replay.specs.Reading.{lines_left}
use Rattle.replay.proofs.PerformingLemmas.{Keeps-then}
use Rattle.replay.proofs.ReadingLemmas.{AreMissing-here, TakesText-next}
use Rattle.replay.proofs.script.Script.text.Goals as goal

pub returns-then-not-branch-clause-taken : goal.returns-then-not-branch-clause-taken
returns-then-not-branch-clause-taken g c =
    let left = lines_left g.R.Read.remaining in
    let none : c.in_ok-next_line.field-0 ≡ false = search rules in
    let takes = rw none at c.in_ok-next_line.ensures.taken in
    AreMissing-here (left c.args.self.now) (left c.loop.self) (left c.next_line.new.self) c.loop.counter c.args.count
    c.loop.text.items c.next_line.new.self.line.items (omega arith) c.loop.invariant.taken takes

pub loop-preserved : goal.loop-preserved
loop-preserved g c =
    let left = lines_left g.R.Read.remaining in
    let held = g.W.Write.contents in
    let some : c.in_ok-next_line.field-0 ≡ true = search rules in
    let takes = rw some at c.in_ok-next_line.ensures.taken in
    let one = rw some at c.in_ok-next_line.ensures.counted in
    record {
      taken = rw (c.in_ok-add_line.ensures, c.deref.ensures.value)
          (TakesText-next (left c.args.self.now) (left c.loop.self) (left c.next_line.new.self) c.loop.counter
          c.loop.text.items c.next_line.new.self.line.items c.loop.invariant.taken takes);
      counted = omega (arith, one, c.loop.invariant.counted);
      same = Keeps-then (held c.args.writer.now) (held c.loop.writer) (held c.next_line.new.writer) c.loop.invariant.same c.in_ok-next_line.ensures.same;
    }
