-- Elements of one size, one behind the other.
use Rattle.std.specs.Prelude.{◌≡◌, ℕ, zero, suc, List, [], ◌∷◌, length, take, drop}
use Rattle.std.specs.List.{AllByRecursion}

-- the first elements in the bytes, `count` of `size` bytes each
abbrev pub elements_in : ℕ → ℕ → List ℕ → List (List ℕ)
elements_in size zero bytes = []
elements_in size (suc count) bytes = take size bytes ∷ elements_in size count (drop size bytes)

-- the size of each, and the elements
pub record Sized : Type 0 where
  pub size : ℕ
  pub items : List (List ℕ)

-- each element has this many bytes
abbrev pub AreSized : ℕ → List (List ℕ) → Type 0
AreSized size elements = AllByRecursion (λ element. length element ≡ size) elements
