-- The elements of the model are those in the bytes that the view holds.
use Rattle.std.proofs.Common.{◌∙◌, ap, length}
use Rattle.dbr_layout.proofs.Elements.{AreSized-from, length-concat-elements_in, length-elements_in, take-drop_elements}
use Rattle.dbr_layout.proofs.view.View.elements.Goals as goal

pub returns-clause-bytes : goal.returns-clause-bytes
returns-clause-bytes c =
    rw (← c.self.view_is, c.value_end.ensures.value, c.offset.ensures) (take-drop_elements _ _ _ _ c.self.invariant)

pub returns-clause-sized : goal.returns-clause-sized
returns-clause-sized c = rw (← c.self.view_is) (AreSized-from _ _ _ _ c.self.invariant)

pub returns-clause-len : goal.returns-clause-len
returns-clause-len c =
    rw (← c.self.view_is, c.value_end.ensures.value, c.offset.ensures, length-elements_in)
    (ap length (take-drop_elements _ _ _ _ c.self.invariant) ∙ length-concat-elements_in _ _ _ _ c.self.invariant)
