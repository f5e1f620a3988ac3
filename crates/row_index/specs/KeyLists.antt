-- What is known of the keys of a list.
use Rattle.std.specs.Prelude.{◌≤◌, List, [], ◌∷◌, length, Bool, IsTrue, All}
use Rattle.std.specs.List.{filter}
use Rattle.row_index.specs.declared.key.Key.{Key}
use Rattle.row_index.specs.Lists.{is_key}

-- no key stands there twice
abbrev pub AreApart : List Key → Type 0
AreApart keys = (key : Key) → length (filter (is_key key) keys) ≤ 1

-- neither its owner nor its ID is greater
abbrev pub IsUpTo : Key → Key → Type 0
IsUpTo top key = (key.owner ≤ top.owner) × (key.id ≤ top.id)

-- all but the last
abbrev pub but_last : {X : Type 0} → List X → List X
but_last [] = []
but_last (x ∷ []) = []
but_last (x ∷ y ∷ xs) = x ∷ but_last (y ∷ xs)

-- none is greater than the top, nor any but the last than what is under it; and where they are known to be apart, they are
pub record AreKnown (top under : Key) (known : Bool) (keys : List Key) : Type 0 where
  pub up_to : All (IsUpTo top) keys
  pub before : All (IsUpTo under) (but_last keys)
  pub apart : IsTrue known → AreApart keys
