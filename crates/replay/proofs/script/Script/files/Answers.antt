use Rattle.std.proofs.Common.{Some}
use Rattle.replay.specs.Reading.{lines_left}
use Rattle.replay.proofs.ReadingLemmas.{Takes-files}
use Rattle.replay.proofs.script.Script.files.Goals as goal

pub returns-clause-taken : goal.returns-clause-taken
returns-clause-taken g c =
    let left = lines_left g.R.Read.remaining in
    Takes-files (left c.args.self.now) (left c.file.new.self) (left c.file-2.new.self) (left c.file-3.new.self) c.args.sizes
    c.in-Some.rules c.in-Some-2.groups (Some c.in-Some-3.access)
    (rw c.in-Some.is at c.in_ok-rules.ensures.taken) (rw c.in-Some-2.is at c.in_ok-groups.ensures.taken) (rw c.in-Some-3.is at c.in_ok-access.ensures.taken)
