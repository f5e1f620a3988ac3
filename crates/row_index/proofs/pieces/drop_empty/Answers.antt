use Rattle.std.proofs.Common.{◌∙◌, ◌≡◌, ◌≤◌, length, sym, ap, subst}
use Rattle.std.proofs.lemmas.Bool.{eqb-true}
use Rattle.row_index.specs.Pieces.{joined}
use Rattle.row_index.proofs.InPieces.{joined_fewer, none_empty, some_one}
use Rattle.row_index.proofs.pieces.drop_empty.Goals as goal

pub returns-then-is_empty : goal.returns-then-is_empty
returns-then-is_empty c =
    let read = c.in-Some.ensures.lookup in
    let empty : length c.in-Some.piece.now ≡ 0 = ap length (sym c.as_slice.ensures) ∙ eqb-true (length c.as_slice.result.now) 0 (sym c.if-is_empty.ensures) in
    let same =
    ap joined c.remove.ensures.items
    ∙ rw (← c.deref.ensures.value) (joined_fewer c.deref.result.now c.args.n c.in-Some.piece.now read.1 read.3.0 empty) in
    record { same = same; filled = λ others. rw c.remove.ensures.items others }

pub returns-else-is_empty-clause-filled : goal.returns-else-is_empty-clause-filled
returns-else-is_empty-clause-filled c =
    let read = c.in-Some.ensures.lookup in
    let some : 1 ≤ length c.in-Some.piece.now = subst (λ p. 1 ≤ length p) c.as_slice.ensures (some_one c.as_slice.result.now c.if-is_empty.ensures) in
    λ others. rw (← c.deref.ensures.value) (none_empty c.deref.result.now c.args.n c.in-Some.piece.now read.1 read.3.0 some (rw c.deref.ensures.value others))
