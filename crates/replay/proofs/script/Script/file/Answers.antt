use Rattle.std.proofs.Common.{arith}
use Rattle.replay.specs.Reading.{lines_left}
use Rattle.replay.proofs.ReadingLemmas.{Takes-file, Takes-missing, Takes-no_file}
use Rattle.replay.proofs.script.Script.file.Goals as goal

pub returns-then-count-eq0-clause-taken : goal.returns-then-count-eq0-clause-taken
returns-then-count-eq0-clause-taken g c =
    rw (c.if-count-eq0.true, c.none.ensures) (Takes-no_file (lines_left g.R.Read.remaining c.args.self.now))

pub returns-in-Some-clause-taken : goal.returns-in-Some-clause-taken
returns-in-Some-clause-taken g c =
    let left = lines_left g.R.Read.remaining in
    let took = rw c.in-Some.is at c.in_ok-text.ensures.taken in
    rw c.read.ensures
    (Takes-file (left c.args.self.now) (left c.text.new.self) c.args.count c.in-Some.text.items (λ e. omega (arith, e)) took)

pub returns-in-None-clause-taken : goal.returns-in-None-clause-taken
returns-in-None-clause-taken g c =
    let left = lines_left g.R.Read.remaining in
    let missing = rw c.in-None.is at c.in_ok-text.ensures.taken in
    Takes-missing (left c.args.self.now) (left c.text.new.self) c.args.count (λ e. omega (arith, e)) missing
