use Rattle.std.proofs.Common.{◌≡◌, ◌<◌, ◌+◌, ◌++◌, suc, [], length, get_or, set, sym, ap, subst, arith, length-append, ◌∙◌}
use Rattle.std.specs.List.{remove}
use Rattle.row_index.specs.Pieces.{joined, HasNoEmptyPiece}
use Rattle.row_index.proofs.InPieces.{as_before, filled_at, filled_two, joined_two, other_piece}
use Rattle.row_index.proofs.pieces.merge.Goals as goal

pub returns-in-Ok : goal.returns-in-Ok
returns-in-Ok c =
    let pieces = c.args.pieces.now.items in
    let n = c.args.n in
    let some = c.index_mut-2.result.now in
    let more = c.replace-next.result in
    let both = c.extend.new.self in
    let empty : c.replace-next.new.dest ≡ [] = c.replace-next.ensures.after ∙ c.new.ensures in
    let next : suc n ≡ n + 1 = omega arith in
    let few = c.if-not-are_sparse.ensures in
    let within : suc n < length pieces = rw (← c.deref.ensures.value) (omega (arith, few)) in
    let first : some ≡ get_or pieces n some = c.index_mut-2.ensures.value ∙ subst (λ m. get_or (set pieces m c.replace-next.new.dest) n some ≡ get_or pieces n some) next (other_piece pieces n some c.replace-next.new.dest) in
    let second : more ≡ get_or pieces (n + 1) more = rw c.replace-next.ensures.value c.index_mut.ensures.value in
    let made : both ≡ some ++ more = c.in-Ok.ensures.ok ∙ ap (λ keys. some ++ keys) c.as_slice.ensures in
    let same : joined c.remove.new.self.items ≡ joined pieces =
    ap joined c.remove.ensures.items
    ∙ rw empty (subst (λ m. joined (remove (set (set pieces m []) n both) m) ≡ joined pieces) next
    (joined_two pieces n some more both first (subst (λ m. more ≡ get_or pieces m more) (sym next) second) within made)) in
    let filled : HasNoEmptyPiece pieces → HasNoEmptyPiece c.remove.new.self.items = λ old.
    let full = filled_at pieces n some first (omega (arith, within)) old in
    let long : length both ≡ length some + length more = ap length made ∙ length-append some more in
    rw (c.remove.ensures.items, empty) (subst (λ m. HasNoEmptyPiece (remove (set (set pieces m []) n both) m)) next
    (filled_two pieces n both within (omega (arith, full, long)) old)) in
    record { same = same; filled = filled }

-- without memory they stay as they were
pub returns-in-Err : goal.returns-in-Err
returns-in-Err c =
    let pieces = c.args.pieces.now.items in
    let n = c.args.n in
    let some = c.index_mut-2.result.now in
    let more = c.replace-next.result in
    let empty : c.replace-next.new.dest ≡ [] = c.replace-next.ensures.after ∙ c.new.ensures in
    let next : suc n ≡ n + 1 = omega arith in
    let few = c.if-not-are_sparse.ensures in
    let within : suc n < length pieces = rw (← c.deref.ensures.value) (omega (arith, few)) in
    let first : some ≡ get_or pieces n some = c.index_mut-2.ensures.value ∙ subst (λ m. get_or (set pieces m c.replace-next.new.dest) n some ≡ get_or pieces n some) next (other_piece pieces n some c.replace-next.new.dest) in
    let second : more ≡ get_or pieces (n + 1) more = rw c.replace-next.ensures.value c.index_mut.ensures.value in
    let back =
    subst (λ m. set (set (set pieces m []) n some) m more ≡ pieces) next
    (as_before pieces n some more first (subst (λ m. more ≡ get_or pieces m more) (sym next) second) within) in
    record { same = rw (empty, c.in-Err.ensures.err) (ap joined back); filled = λ old. rw (empty, c.in-Err.ensures.err) (subst HasNoEmptyPiece (sym back) old) }
