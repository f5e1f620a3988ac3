use Rattle.std.proofs.Common.{◌∙◌}
use Rattle.row_index.specs.Lists.{is_key}
use Rattle.row_index.proofs.Keys.{same_key_itself}
use Rattle.row_index.proofs.Once.{others_at}
use Rattle.row_index.proofs.sequence.Sequence+Key.remove_only.Goals as goal

pub returns-in-Some : goal.returns-in-Some
returns-in-Some c =
    let found = rw c.as_slice.ensures at c.in-Some.ensures in
    c.remove.ensures ∙ others_at (is_key c.args.key) c.args.self.now c.in-Some.place c.args.key found (same_key_itself c.args.key) c.requires.once
