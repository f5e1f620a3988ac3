-- An element of the model is that in the bytes.
use Rattle.std.proofs.Common.{ap, length, ◌∙◌}
use Rattle.dbr_layout.proofs.Elements.{element_end-le, length-element, length-elements_in, take_element}
use Rattle.dbr_layout.proofs.sized.Elements.element.Goals as goal

pub slice_bounds-result-end : goal.slice_bounds-result-end
slice_bounds-result-end c =
    let known = rw (← c.self.view_is, length-elements_in) at c.requires in
    element_end-le _ _ _ _ c.self.invariant known

pub returns-clause-bytes : goal.returns-clause-bytes
returns-clause-bytes c =
    let known = rw (← c.self.view_is, length-elements_in) at c.requires in
    rw (← c.self.view_is) (take_element _ _ _ _ known)

pub returns-clause-len : goal.returns-clause-len
returns-clause-len c =
    let known = rw (← c.self.view_is, length-elements_in) at c.requires in
    rw (← c.self.view_is) (ap length (take_element _ _ _ _ known) ∙ length-element _ _ _ _ c.self.invariant known)
