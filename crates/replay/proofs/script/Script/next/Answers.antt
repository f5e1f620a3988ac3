use Rattle.std.proofs.Common.{◌≡◌, Some, true, rules}
use Rattle.replay_text.specs.Lines.{line_of}
use Rattle.replay.specs.Reading.{lines_left}
use Rattle.replay.specs.Script.{sizes_of}
use Rattle.replay.proofs.ReadingLemmas.{Takes-sizes, TakesEntry-good}
use Rattle.replay.proofs.script.Script.next.Goals as goal

pub returns-in-Some-clause-taken : goal.returns-in-Some-clause-taken
returns-in-Some-clause-taken g c =
    let left = lines_left g.R.Read.remaining in
    let some : c.in_ok-next_line.field-0 ≡ true = search rules in
    let here : line_of c.next_line.new.self.line.items ≡ Some c.in-Ok.line = search rules in
    TakesEntry-good (left c.args.self.now) (left c.next_line.new.self) (left c.files.new.self) c.next_line.new.self.line.items c.in-Ok.line c.in-Some.files
    (rw some at c.in_ok-next_line.ensures.taken) here
    (Takes-sizes (left c.next_line.new.self) (left c.files.new.self) c.own_files.result (sizes_of c.in-Ok.line) (Some c.in-Some.files)
    c.own_files.ensures (rw c.in-Some.is at c.in_ok-files.ensures.taken))
