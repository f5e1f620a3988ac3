use Rattle.std.proofs.Common.{◌∙◌, ◌+◌, ◌*◌, ◌≤◌, length, drop, refl, sym, ap, arith}
use Rattle.std.proofs.lemmas.List.{drop-drop}
use Rattle.row_index.proofs.Sequences.{taken_behind}
use Rattle.row_index.proofs.sequence.Sequence.remove.Goals as goal
use Rattle.row_index.proofs.sequence.Sequence.remove.Goals.{then-place-eq0, else-place-eq0}

pub returns : goal.returns
returns g c =
    let inside = c.self.inside in
    let few : 2 * inside.gone ≤ length inside.items.items = c.self.invariant in
    elim c.if-place-eq0.branch [
      | then-place-eq0 w ↦
          let kept = c.tighten.ensures.same ∙ ap (λ s. drop s.gone s.items.items) w.self-inside-is in
          rw (w.if-place-eq0.true, ← c.self.view_is) (kept ∙ sym (drop-drop 1 inside.gone inside.items.items))
      | else-place-eq0 w ↦
          let kept = c.tighten.ensures.same ∙ ap (λ s. drop s.gone s.items.items) w.self-inside-is in
          rw (← c.self.view_is) (kept ∙ ap (drop inside.gone) w.remove.ensures.items ∙ taken_behind inside.gone c.args.place (inside.gone + c.args.place) inside.items.items refl (omega (arith, few)))
    ]
