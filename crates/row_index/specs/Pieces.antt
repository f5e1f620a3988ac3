-- Keys in pieces, which are lists one behind another.
use Rattle.std.specs.Prelude.{◌≡◌, ◌≤◌, ℕ, zero, suc, List, [], ◌∷◌, ◌++◌, length, Bool, true, false, ⊤}
use Rattle.std.specs.List.{list_any}
use Rattle.row_index.specs.declared.key.Key.{Key}
use Rattle.row_index.specs.declared.pieces.Part.{Part}
use Rattle.row_index.specs.declared.pieces.Part.TheVariants.{Last, Piece, Nowhere}
use Rattle.row_index.specs.Lists.{is_key}

-- what stands in all pieces
abbrev pub joined : {X : Type 0} → List (List X) → List X
joined [] = []
joined (piece ∷ pieces) = piece ++ joined pieces

-- each piece has something
abbrev pub HasNoEmptyPiece : {X : Type 0} → List (List X) → Type 0
HasNoEmptyPiece [] = ⊤
HasNoEmptyPiece (piece ∷ pieces) = (1 ≤ length piece) × HasNoEmptyPiece pieces

-- so many stand in the pieces and behind them, and no piece is empty
pub record AreKept {X : Type 0} (len : ℕ) (pieces : List (List X)) (last : List X) : Type 0 where
  pub counted : len ≡ length (joined pieces ++ last)
  pub filled : HasNoEmptyPiece pieces

-- the nth piece, counted from 0, has the key
abbrev pub has_at : Key → ℕ → List (List Key) → Bool
has_at key n [] = false
has_at key zero (piece ∷ pieces) = list_any (is_key key) piece
has_at key (suc n) (piece ∷ pieces) = has_at key n pieces

-- the key stands in that part: among the last ones, in a piece, or in neither
abbrev pub StandsIn : Part → Key → List (List Key) → List Key → Type 0
StandsIn Last key pieces last = list_any (is_key key) last ≡ true
StandsIn (Piece n) key pieces last = has_at key n pieces ≡ true
StandsIn Nowhere key pieces last = list_any (is_key key) (joined pieces ++ last) ≡ false
