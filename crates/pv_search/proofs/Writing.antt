-- What is written for each item of a list.
use Rattle.std.proofs.Common.{◌≡◌, ℕ, ◌+◌, ◌<◌, List, ◌∷◌, ◌++◌, length, get_or, drop, ap, sym, ◌∙◌, append_assoc}
use Rattle.std.specs.List.{flat_map}
use Rattle.std.proofs.Math.Numerals.{add-one}
use Rattle.std.proofs.Math.Seq.{drop-cons}

-- an item is at the front of what is left of the list
pub left-at : {X : Type 0} (xs : List X) (i : ℕ) (d : X) → i < length xs → drop i xs ≡ get_or xs i d ∷ drop (i + 1) xs
left-at xs i d within = rw (add-one) (drop-cons xs i d within)

-- one more is written, and the others are left
pub written_on : (f : ℕ → List ℕ) (xs : List ℕ) (i : ℕ) (old new all : List ℕ) → i < length xs → new ≡ old ++ f (get_or xs i 0)
    → old ++ flat_map f (drop i xs) ≡ all → new ++ flat_map f (drop (i + 1) xs) ≡ all
written_on f xs i old new all within e whole =
    ap (λ (t : List ℕ). t ++ flat_map f (drop (i + 1) xs)) e
    ∙ append_assoc old (f (get_or xs i 0)) (flat_map f (drop (i + 1) xs))
    ∙ sym (ap (λ (t : List ℕ). old ++ flat_map f t) (left-at xs i 0 within))
    ∙ whole
