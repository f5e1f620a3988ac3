use Rattle.std.proofs.Common.{◌≡◌, ◌++◌, map, take}
use Rattle.std.specs.List.{concat}
use Rattle.dbr_layout.specs.Conversion.{converted_element, converted_size}
use Rattle.dbr_layout.specs.Elements.{AreSized}
use Rattle.dbr_layout.proofs.conversion.put_each.Given as goal

-- the elements so far are written, each of its size
abbrev pub invariant-loop-index : goal.invariant-loop-index
invariant-loop-index l =
    (l.out.items ≡ l.initial.out.items ++ concat (map (converted_element l.states l.how) (take l.index l.elements.items)))
    × AreSized (converted_size l.how l.elements.size) (map (converted_element l.states l.how) (take l.index l.elements.items))
