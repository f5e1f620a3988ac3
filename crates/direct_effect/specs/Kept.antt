-- What is kept of a payload.
use Rattle.std.specs.Prelude.{◌≡◌, ℕ, List, ◌++◌, take, option_map, unwrap_or}
use Rattle.dbr_layout.specs.Dbr.{dbr_of, value_end}

-- the bytes that count: as far as so many elements of the type with this number reach; none of a number that is no type's
abbrev pub counted : ℕ → ℕ → ℕ
counted dtype count = unwrap_or (option_map (λ dbr. value_end dbr count) (dbr_of dtype)) 0

-- those that count, and perhaps more bytes behind
abbrev pub IsKeptAs : ℕ → ℕ → List ℕ → List ℕ → Type 0
IsKeptAs dtype count payload kept = (more : List ℕ) × (kept ≡ take (counted dtype count) payload ++ more)
