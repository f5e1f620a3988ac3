-- Rows under the keys of pieces, which are lists one behind another.
use Rattle.std.proofs.Common.{◌≡◌, ◌<◌, ◌+◌, ℕ, List, ◌++◌, length, drop, get_or, map, sym, ap, ◌∙◌}
use Rattle.std.specs.List.{find}
use Rattle.std.proofs.lemmas.List.{map-append}
use Rattle.std.proofs.lemmas.List.Elements.{filter_map-append}
use Rattle.row_index.specs.declared.key.Key.{Key}
use Rattle.row_index.specs.Pieces.{joined}
use Rattle.row_index.specs.Rows.{same_key}
use Rattle.row_index.proofs.InPieces.{piece_first}
use Rattle.named_rows.specs.Indexes.{rows_at}

module _ {V : Type 0} (key : V → Key) (rows : List V) where
  pub rows_both : (some more : List Key) → rows_at key rows (some ++ more) ≡ rows_at key rows some ++ rows_at key rows more
  rows_both some more = filter_map-append (λ k. find (λ row. same_key (key row) k) rows) some more

  -- those of the piece at a place, and those of the later ones
  pub first_joined : (pieces : List (List Key)) (n : ℕ) (piece : List Key) → piece ≡ get_or pieces n piece → n < length pieces
      → rows_at key rows (joined (drop n pieces)) ≡ rows_at key rows piece ++ rows_at key rows (joined (drop (n + 1) pieces))
  first_joined pieces n piece is within =
      ap (rows_at key rows) (piece_first pieces n piece within ∙ ap (λ p. p ++ joined (drop (n + 1) pieces)) (sym is))
      ∙ rows_both piece (joined (drop (n + 1) pieces))

  module _ {W : Type 0} (f : V → W) where
    pub read_both : (some more : List Key) → map f (rows_at key rows (some ++ more)) ≡ map f (rows_at key rows some) ++ map f (rows_at key rows more)
    read_both some more = ap (map f) (rows_both some more) ∙ map-append f (rows_at key rows some) (rows_at key rows more)

    pub read_joined : (pieces : List (List Key)) (n : ℕ) (piece : List Key) → piece ≡ get_or pieces n piece → n < length pieces
        → map f (rows_at key rows (joined (drop n pieces))) ≡ map f (rows_at key rows piece) ++ map f (rows_at key rows (joined (drop (n + 1) pieces)))
    read_joined pieces n piece is within = ap (map f) (first_joined pieces n piece is within) ∙ map-append f (rows_at key rows piece) (rows_at key rows (joined (drop (n + 1) pieces)))
