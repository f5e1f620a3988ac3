use Rattle.std.proofs.Common.{◌≡◌, true, false, rules}
use Rattle.std.specs.Io.Buffered.{reader_remaining}
use Rattle.replay.proofs.ScriptLemmas.{TakesLine-bytes, TakesLine-end}
use Rattle.replay.proofs.script.Script.next_line.Goals as goal

pub returns-then-not-branch-clause-taken : goal.returns-then-not-branch-clause-taken
returns-then-not-branch-clause-taken g c =
    let none : c.in_ok-read_whole.field-0 ≡ false = search rules in
    let takes = rw none at c.in_ok-read_whole.ensures in
    TakesLine-end (reader_remaining (λ k. g.R.Read.remaining k.reader) c.args.self.now.reader)
    (reader_remaining (λ k. g.R.Read.remaining k.reader) c.read_whole.new.script)
    c.read_whole.new.line.items c.read_whole.new.line.items takes

pub returns-clause-taken : goal.returns-clause-taken
returns-clause-taken g c =
    let some : c.in_ok-read_whole.field-0 ≡ true = search rules in
    let takes = rw some at c.in_ok-read_whole.ensures in
    TakesLine-bytes (reader_remaining (λ k. g.R.Read.remaining k.reader) c.args.self.now.reader)
    (reader_remaining (λ k. g.R.Read.remaining k.reader) c.read_whole.new.script)
    c.read_whole.new.line.items c.drop_end.new.line.items takes c.drop_end.ensures
