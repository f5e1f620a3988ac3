use Rattle.std.proofs.Common.{bytes_eq, ◌∙◌}
use Rattle.row_index.proofs.Named.{of_there, of_nowhere, same_bytes}
use Rattle.row_index.proofs.name_keys.NameKeys.of.Goals as goal

pub returns-in-Some : goal.returns-in-Some
returns-in-Some c =
    rw (← c.self.view_is) (c.parts.ensures ∙ of_there bytes_eq same_bytes c.args.name.now c.self.inside.lists.entries c.in-Some.keys.now c.in-Some.ensures)

pub returns-in-None : goal.returns-in-None
returns-in-None c =
    rw (← c.self.view_is) (of_nowhere bytes_eq same_bytes c.args.name.now c.self.inside.lists.entries c.in-None.ensures)
