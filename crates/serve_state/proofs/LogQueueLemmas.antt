-- How many bytes lines have together.
use Rattle.std.proofs.Common.{◌≡◌, ℕ, ◌+◌, List, [], ◌∷◌, ◌++◌, length, refl, arith}
use Rattle.serve_state.specs.LogQueue.{total}

-- one more line
pub total_push : (lines : List (List ℕ)) (line : List ℕ) → total (lines ++ line ∷ []) ≡ total lines + length line
total_push [] line = omega arith
total_push (first ∷ lines) line = let rest = total_push lines line in omega (arith, rest)
