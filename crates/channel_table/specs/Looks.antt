-- How many rows of a table were looked at.
use Rattle.std.specs.Prelude.{◌≡◌, ◌≤◌, ◌+◌, ℕ}
use Rattle.std.specs.Io.Iter.{u64_saturate}
use Rattle.channel_table.specs.ClientRows.{ClientRows}

-- how many looks there were, and the brand of the table whose rows are counted
pub record Looks : Type 0 where
  pub looks : ℕ
  pub brand : ℕ

-- the rows of a table, and its brand, which the count of looks at these rows bears too
pub record BrandedRows : Type 0 where
  pub rows : ClientRows
  pub brand : ℕ

-- at most so many rows were looked at: the count stays that of the same table, and never falls
abbrev pub IsCounted : ℕ → Looks → Looks → Type 0
IsCounted n old new = (new.brand ≡ old.brand) × (old.looks ≤ new.looks) × (new.looks ≤ old.looks + n)

-- exactly so many were, as far as the count goes
abbrev pub IsCountedExactly : ℕ → Looks → Looks → Type 0
IsCountedExactly n old new = IsCounted n old new × (new.looks ≡ u64_saturate (old.looks + n))

-- any number of rows was looked at
abbrev pub GoesOn : Looks → Looks → Type 0
GoesOn old new = (new.brand ≡ old.brand) × (old.looks ≤ new.looks)
