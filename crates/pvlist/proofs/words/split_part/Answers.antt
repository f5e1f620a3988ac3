use Rattle.std.proofs.Common.{sym, ◌∙◌, ◌≡◌, position, Some, arith}
use Rattle.pvlist.specs.Separators.{is_separator}
use Rattle.pvlist.proofs.WordLemmas.{split_at_first, split_nowhere, IsCharBoundary-at_separator, IsCharBoundary-behind_separator}
use Rattle.pvlist.proofs.words.split_part.Goals as goal

pub range-requires-clause-end_boundary : goal.range-requires-clause-end_boundary
range-requires-clause-end_boundary c =
    let at : position (is_separator c.args.commas) c.args.text.now ≡ Some c.in-Some.end = rw c.as_bytes.ensures.value at (sym c.separator_place.ensures ∙ c.in-Some.is) in
    IsCharBoundary-at_separator c.args.commas c.args.text.now c.in-Some.end at

pub range_from-requires : goal.range_from-requires
range_from-requires c =
    let at : position (is_separator c.args.commas) c.args.text.now ≡ Some c.in-Some.end = rw c.as_bytes.ensures.value at (sym c.separator_place.ensures ∙ c.in-Some.is) in
    λ _. IsCharBoundary-behind_separator c.args.commas c.args.text.now c.in-Some.end c.utf8.text at

pub returns-in-Some : goal.returns-in-Some
returns-in-Some c =
    let at : position (is_separator c.args.commas) c.args.text.now ≡ Some c.in-Some.end = rw c.as_bytes.ensures.value at (sym c.separator_place.ensures ∙ c.in-Some.is) in
    let split = split_at_first (is_separator c.args.commas) c.args.text.now c.in-Some.end at in
    grind (arith, split)

pub returns-in-None : goal.returns-in-None
returns-in-None c =
    split_nowhere (is_separator c.args.commas) c.args.text.now (rw c.as_bytes.ensures.value at (sym c.separator_place.ensures ∙ c.in-None.is))
