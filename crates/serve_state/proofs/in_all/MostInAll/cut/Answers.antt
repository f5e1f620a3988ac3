use Rattle.std.proofs.Common.{◌≡◌, ℕ, List, take, ap, subst, ◌∙◌}
use Rattle.serve_state.specs.declared.in_all.WaitingBytes.{WaitingBytes}
use Rattle.serve_state.specs.InAll.{front_over}
use Rattle.serve_state.proofs.in_all.MostInAll.cut.Goals as goal

-- the sorted list of which the front is left
pub returns : goal.returns
returns c =
    let sorted : List WaitingBytes = c.sort.new.clients.items in
    let front : take c.place_over-place.result sorted ≡ front_over c.bytes.result sorted =
    subst (λ (l : List WaitingBytes). take c.place_over-place.result l ≡ front_over c.bytes.result l) c.as_slice.ensures.value c.place_over-place.ensures.front in
    record {
      sorted = sorted;
      moved = c.sort.ensures.moved;
      order = c.sort.ensures.order;
      front = c.truncate.ensures.items ∙ front ∙ ap (λ (n : ℕ). front_over n sorted) c.bytes.ensures;
    }
