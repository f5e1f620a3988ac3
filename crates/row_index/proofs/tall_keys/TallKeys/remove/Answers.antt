use Rattle.std.proofs.Common.{◌≡◌, ◌++◌, length, true, ap, sym, arith, ◌∙◌}
use Rattle.std.specs.List.{list_any}
use Rattle.row_index.specs.Lists.{is_key}
use Rattle.row_index.specs.Pieces.{has_at, joined}
use Rattle.row_index.proofs.InPieces.{any_passes, at_passes, first_loses, none_loses, one_less, second_loses, some_in_last, some_in_pieces}
use Rattle.row_index.proofs.tall_keys.TallKeys.remove.Goals as goal

pub returns-in-Last : goal.returns-in-Last
returns-in-Last g c =
    let key = c.args.key in
    let inside = c.self.inside in
    let there : list_any (is_key key) inside.last ≡ true = ap (list_any (is_key key)) (sym c.as_slice.ensures) ∙ c.in-Last.ensures in
    let once = rw (← c.self.view_is) at c.requires.once in
    rw (← c.self.view_is) (second_loses key (joined inside.pieces.items) inside.last c.remove_only.new.self (any_passes (is_key key) inside.last there) once c.remove_only.ensures)

-- one key less stands there
pub invariant_of-self : goal.invariant_of-self
invariant_of-self g c =
    let key = c.args.key in
    let inside = c.self.inside in
    let there : list_any (is_key key) inside.last ≡ true = ap (list_any (is_key key)) (sym c.as_slice.ensures) ∙ c.in-Last.ensures in
    let once = rw (← c.self.view_is) at c.requires.once in
    let lost = second_loses key (joined inside.pieces.items) inside.last c.remove_only.new.self (any_passes (is_key key) inside.last there) once c.remove_only.ensures in
    let less = one_less key (joined inside.pieces.items ++ inside.last) (some_in_last key (joined inside.pieces.items) inside.last there) once in
    let same = ap length lost in
    let counted = c.self.invariant.counted in
    record { counted = omega (arith, same, less, counted); filled = c.self.invariant.filled }

pub overflow_sub-self-in-Piece : goal.overflow_sub-self-in-Piece
overflow_sub-self-in-Piece g c =
    let key = c.args.key in
    let inside = c.self.inside in
    let there : has_at key c.in-Piece.n inside.pieces.items ≡ true = ap (has_at key c.in-Piece.n) (sym c.deref.ensures.value) ∙ c.in-Piece.ensures in
    let once = rw (← c.self.view_is) at c.requires.once in
    let less = one_less key (joined inside.pieces.items ++ inside.last) (some_in_pieces key inside.pieces.items inside.last c.in-Piece.n there) once in
    let counted = c.self.invariant.counted in
    omega (arith, less, counted)

pub returns-in-Piece : goal.returns-in-Piece
returns-in-Piece g c =
    let key = c.args.key in
    let inside = c.self.inside in
    let there : has_at key c.in-Piece.n inside.pieces.items ≡ true = ap (has_at key c.in-Piece.n) (sym c.deref.ensures.value) ∙ c.in-Piece.ensures in
    let once = rw (← c.self.view_is) at c.requires.once in
    rw (← c.self.view_is) (first_loses key (joined inside.pieces.items) inside.last (joined c.remove_at.new.pieces.items) (at_passes key c.in-Piece.n inside.pieces.items there) once c.remove_at.ensures.gone)

pub invariant_of-self-in-Piece : goal.invariant_of-self-in-Piece
invariant_of-self-in-Piece g c =
    let key = c.args.key in
    let inside = c.self.inside in
    let there : has_at key c.in-Piece.n inside.pieces.items ≡ true = ap (has_at key c.in-Piece.n) (sym c.deref.ensures.value) ∙ c.in-Piece.ensures in
    let once = rw (← c.self.view_is) at c.requires.once in
    let lost = first_loses key (joined inside.pieces.items) inside.last (joined c.remove_at.new.pieces.items) (at_passes key c.in-Piece.n inside.pieces.items there) once c.remove_at.ensures.gone in
    let less = one_less key (joined inside.pieces.items ++ inside.last) (some_in_pieces key inside.pieces.items inside.last c.in-Piece.n there) once in
    let same = ap length lost in
    let counted = c.self.invariant.counted in
    record { counted = omega (arith, same, less, counted); filled = c.remove_at.ensures.filled c.self.invariant.filled }

pub returns-in-Nowhere : goal.returns-in-Nowhere
returns-in-Nowhere g c =
    let nowhere = rw (c.deref.ensures.value, c.as_slice.ensures) at c.in-Nowhere.ensures in
    rw (← c.self.view_is) (none_loses c.args.key (joined c.self.inside.pieces.items ++ c.self.inside.last) nowhere)
