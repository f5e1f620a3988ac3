-- What is on the way, as places are found free and messages are pushed.
use Rattle.std.proofs.Common.{◌≡◌, ℕ, ◌+◌, ◌-◌, ◌≤◌, List, [], ◌∷◌, length, drop, map, refl, sym, ap, ◌∙◌, arith, length-drop, drop-drop}
use Rattle.std.specs.Prelude.{sum_by}
use Rattle.std.proofs.lemmas.List.{drop-map, length-map}
use Rattle.std.proofs.lemmas.List.Sums.{sum_by-cons}
use Rattle.board_rings.specs.OnTheWay.{last_of, total_of}

-- the last of the last
pub last_of_last : {A : Type 0} (m n : ℕ) (xs : List A) → m ≤ n → last_of m (last_of n xs) ≡ last_of m xs
last_of_last m n xs fewer =
    drop-drop (length (last_of n xs) - m) (length xs - n) xs
    ∙ ap (λ (k : ℕ). drop k xs) (omega (arith, fewer, length-drop (length xs - n) xs))

-- their lengths
pub lengths_kept : {A : Type 0} (f : A → ℕ) (m n : ℕ) (xs : List A) → m ≤ n → last_of m (map f (last_of n xs)) ≡ map f (last_of m xs)
lengths_kept f m n xs fewer =
    ap (λ (k : ℕ). drop (k - m) (map f (last_of n xs))) (length-map (last_of n xs) f)
    ∙ drop-map f (length (last_of n xs) - m) (last_of n xs)
    ∙ ap (map f) (last_of_last m n xs fewer)

-- the sum of their lengths
pub total_of_lengths : {A : Type 0} (f : A → ℕ) (xs : List A) → total_of (map f xs) ≡ sum_by f xs
total_of_lengths f [] = refl
total_of_lengths f (x ∷ xs) =
    sum_by-cons (λ (len : ℕ). len) (f x) (map f xs) ∙ ap (λ (rest : ℕ). f x + rest) (total_of_lengths f xs) ∙ sym (sum_by-cons f x xs)
