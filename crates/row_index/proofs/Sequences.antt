-- Lists whose first ones went.
use Rattle.std.proofs.Common.{◌≡◌, ℕ, zero, suc, ◌+◌, ◌≤◌, List, [], ◌∷◌, ◌++◌, length, take, drop, refl, arith}

-- one of the list is taken out of all, those that went among them
pub taken_behind : {X : Type 0} (gone place n : ℕ) (items : List X) → n ≡ gone + place → gone ≤ length items
    → drop gone (take n items ++ drop (suc n) items) ≡ take place (drop gone items) ++ drop (suc place) (drop gone items)
taken_behind zero place n items is within = let same : n ≡ place = omega arith in rw same refl
taken_behind (suc gone) place zero items is within = absurd (omega arith)
taken_behind (suc gone) place (suc n) [] is within = absurd (omega arith)
taken_behind (suc gone) place (suc n) (x ∷ xs) is within = taken_behind gone place n xs (omega arith) (omega arith)
