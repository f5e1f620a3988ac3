-- The first elements of the model are those in the bytes.
use Rattle.dbr_layout.proofs.Elements.{AreSized-elements_in, take_first}
use Rattle.dbr_layout.proofs.sized.Elements.first.Goals as goal

pub returns-clause-bytes : goal.returns-clause-bytes
returns-clause-bytes c = rw (← c.self.view_is, c.min.ensures) (take_first _ _ _ _ c.self.invariant)

pub returns-clause-sized : goal.returns-clause-sized
returns-clause-sized c = rw (← c.self.view_is) (AreSized-elements_in _ _ _ c.self.invariant)
