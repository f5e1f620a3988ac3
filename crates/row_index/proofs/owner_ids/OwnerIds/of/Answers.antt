use Rattle.std.proofs.lemmas.Bool.{eqb-true}
use Rattle.std.proofs.Common.{nat_eq, ◌∙◌}
use Rattle.row_index.proofs.Named.{of_there, of_nowhere}
use Rattle.row_index.proofs.owner_ids.OwnerIds.of.Goals as goal

pub returns-in-Some : goal.returns-in-Some
returns-in-Some c =
    rw (← c.self.view_is) (c.as_slice.ensures ∙ of_there nat_eq eqb-true c.args.owner c.self.inside.lists.entries c.in-Some.ids.now c.in-Some.ensures)

pub returns-in-None : goal.returns-in-None
returns-in-None c =
    rw (← c.self.view_is) (of_nowhere nat_eq eqb-true c.args.owner c.self.inside.lists.entries c.in-None.ensures)
